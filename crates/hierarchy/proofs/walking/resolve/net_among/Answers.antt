use Rattle.std.proofs.Common.{◌≡◌, ℕ, List, [], ◌∷◌, Bool, length, refl, arith, None}
use Rattle.std.specs.Map.{lookup}
use Rattle.std.specs.Str.{bytes_eq}
use Rattle.hierarchy.proofs.walking.resolve.net_among.Goals as goal

none_there : (test : List ℕ → Bool) (entries : List (List ℕ × (ℕ × List ℕ))) → length entries ≡ 0 → None ≡ lookup test entries
none_there test [] none = refl
none_there test (e ∷ entries) none = absurd (omega arith)

pub returns-then-is_empty : goal.returns-then-is_empty
returns-then-is_empty c = none_there (bytes_eq c.args.name.now) c.args.nets.now.entries (c.is_empty.ensures.0 c.if-is_empty.true)
