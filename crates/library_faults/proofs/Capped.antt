-- Sums as far as 64 bits hold them.
use Rattle.std.proofs.Common.{◌≡◌, ℕ, ◌+◌, ◌<◌, List, [], ◌∷◌, length, get_or, map, take, min, arith}
use Rattle.std.specs.List.{sum_by}
use Rattle.std.proofs.lemmas.List.{take_more, map-append}
use Rattle.std.proofs.lemmas.List.Sums.{sum_by-append}
use Rattle.library_faults.specs.FlatText.{capped}

pub capped_sum : (a b x y : ℕ) → x ≡ capped a → y ≡ capped b → min (x + y) 18446744073709551615 ≡ capped (a + b)
capped_sum a b x y e f = omega arith

sum_more : {X Y : Type 0} (f : Y → ℕ) (v : X → Y) (xs : List X) (i : ℕ) (x : X) → i < length xs → x ≡ get_or xs i x → sum_by f (map v (take (i + 1) xs)) ≡ sum_by f (map v (take i xs)) + f (v x)
sum_more f v xs i x below is = rw (take_more xs i x below, map-append, sum_by-append f (map v (take i xs)) (v (get_or xs i x) ∷ []), ← is) (omega arith)

pub capped_more : {X Y : Type 0} (f : Y → ℕ) (v : X → Y) (xs : List X) (i : ℕ) (x : X) (total more : ℕ) → i < length xs → x ≡ get_or xs i x → total ≡ capped (sum_by f (map v (take i xs))) → more ≡ capped (f (v x)) → min (total + more) 18446744073709551615 ≡ capped (sum_by f (map v (take (i + 1) xs)))
capped_more f v xs i x total more below is so_far here = omega (arith, sum_more f v xs i x below is)

pub ruleset capped_laws = (capped_sum)
