use Rattle.std.proofs.Common.{◌≡◌, ℕ, ◌<◌, [], length, slice_index_or, IsPermutation}
use Rattle.node_reads.proofs.sorting.sorted_rows.Given as goal

abbrev pub invariant-loop-x : goal.invariant-loop-x
invariant-loop-x l = (length l.sorted ≡ l.x) × ((k : ℕ) → k < l.x → IsPermutation (slice_index_or l.rows k []) (slice_index_or l.sorted k []))
