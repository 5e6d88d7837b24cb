-- The calls that are to fail, as the map of their numbers.
use Rattle.std.proofs.Common.{◌≡◌, ℕ, cond, List, [], ◌∷◌, Some, None, refl, sym, ap, ◌∙◌}
use Rattle.std.specs.Ordering.{nat_cmp, eq_by_cmp}
use Rattle.std.specs.Cmp.{nat_cmp_total, eq_by_cmp_equiv}
use Rattle.std.specs.FinMap.{FinMap, get, insert, empty, get-empty, find, get-from_entries, get-insert, same_map, nat_cmp-IsAntisymmetric}
use Rattle.std.specs.Map.{lookup}
use Rattle.std.specs.BTreeMap as tree
use Rattle.std.specs.BTreeMap.{is_at}
use Rattle.tmr_outside.specs.Plan.{failing_of}

find-lookup : (call : ℕ) (es : List (ℕ × ℕ)) → find nat_cmp call es ≡ lookup (is_at (nat_cmp call)) es
find-lookup call [] = refl
find-lookup call (e ∷ es) = ap (cond (eq_by_cmp nat_cmp call e.0) (Some e.1)) (find-lookup call es)

-- what is looked up in the map
pub get-failing_of : (m : tree.BTreeMap ℕ ℕ) (call : ℕ) → get (failing_of m) call ≡ tree.get nat_cmp m call
get-failing_of m call = get-from_entries nat_cmp_total m.entries call ∙ find-lookup call m.entries

-- what an insertion does
pub failing_of-insert : (m n : tree.BTreeMap ℕ ℕ) (call keep : ℕ) → tree.Updates nat_cmp m n call (Some keep) → failing_of n ≡ insert (failing_of m) call keep
failing_of-insert m n call keep updates = same_map nat_cmp_total nat_cmp-IsAntisymmetric _ _ (λ other.
    get-failing_of n other
    ∙ updates.0 other
    ∙ ap (λ b. cond b (Some keep) (tree.get nat_cmp m other)) ((eq_by_cmp_equiv nat_cmp_total).symm call other)
    ∙ ap (cond (eq_by_cmp nat_cmp other call) (Some keep)) (sym (get-failing_of m other))
    ∙ sym (get-insert nat_cmp_total (failing_of m) call keep other))

-- where no call is to fail, none is looked up
pub get-none : (failing : FinMap nat_cmp ℕ) (call : ℕ) → failing ≡ empty → get failing call ≡ None
get-none failing call none = ap (λ m. get m call) none ∙ get-empty nat_cmp call

pub ruleset plan_rules = (get-failing_of, get-none)
