-- What a node costs in each partition.
use Rattle.std.specs.Prelude.{ℕ, ◌+◌, ◌≤◌, ◌==◌, Bool, not, ◌&&◌, List, slice_index, count_by}
use Rattle.std.specs.List.{list_any}
use Rattle.flat_net.specs.Net.{Net}
use Rattle.partitioner.specs.Below.{one_if}
use Rattle.node_reads.specs.Sources.{other_readers, other_sources}

-- another node than i and x reads node x from partition p
abbrev pub is_kept : Net → List ℕ → ℕ → ℕ → ℕ → Bool
is_kept n of i x p = list_any (λ y. not (i == y) && slice_index of y == p) (other_readers n x)

-- partition p holds neither node x nor, beside i, a node that reads it
abbrev pub is_fresh : Net → List ℕ → ℕ → ℕ → ℕ → Bool
is_fresh n of i x p = not (slice_index of x == p) && not (is_kept n of i x p)

-- some other node reads node i from partition p
abbrev pub is_wanted : Net → List ℕ → ℕ → ℕ → Bool
is_wanted n of i p = list_any (λ y. slice_index of y == p) (other_readers n i)

-- how many pairs node i makes in partition p: one for each other node that it alone would read there, and one for itself unless it is read there
unfoldable pub loss : Net → List ℕ → ℕ → ℕ → ℕ
loss n of i p = one_if (not (is_wanted n of i p)) + count_by (λ x. is_fresh n of i x p) (other_sources n i)

-- no partition, full or not, loses less for node i than where it stands
abbrev pub IsContent : Net → List ℕ → ℕ → Type 0
IsContent n of i = (p : ℕ) → loss n of i (slice_index of i) ≤ loss n of i p
