-- Which partitions a row of nodes meets.
use Rattle.std.specs.Prelude.{ℕ, ◌==◌, Bool, not, ◌&&◌, List, slice_index, take}
use Rattle.std.specs.List.{list_any}

-- p is another partition than `own`, and one of the first j nodes of the row stands in it
abbrev pub is_met : ℕ → List ℕ → List ℕ → ℕ → ℕ → Bool
is_met own of row j p = not (own == p) && list_any (λ y. slice_index of y == p) (take j row)
