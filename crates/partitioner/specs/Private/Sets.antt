-- Sets of numbers, each as the list of its numbers in ascending order.
use Rattle.std.specs.Prelude.{ℕ, Bool, List, [], map, slice_index_or}
use Rattle.std.specs.List.{list_any}
use Rattle.std.specs.Ordering.{is_eq, nat_cmp}
use Rattle.std.specs.BTreeSet.{BTreeSet, keys}

-- the sets as lists
abbrev pub lists_of : List (BTreeSet ℕ) → List (List ℕ)
lists_of sets = map keys sets

-- q is in set x
abbrev pub has : List (List ℕ) → ℕ → ℕ → Bool
has sets x q = list_any (λ c. is_eq (nat_cmp q c)) (slice_index_or sets x [])
