use Rattle.std.proofs.Common.{◌≡◌, ◌<◌, ◌≤◌, ℕ, slice_index}
use Rattle.partition_graph.specs.Places.{max_below}
use Rattle.partition_graph.proofs.counting.greatest.Given as goal

abbrev pub invariant-loop-i : goal.invariant-loop-i
invariant-loop-i l = record {
  most : l.most ≡ max_below l.i (slice_index l.numbers);
  above : (j : ℕ) → j < l.i → slice_index l.numbers j ≤ l.most;
}
