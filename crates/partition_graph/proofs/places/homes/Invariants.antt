use Rattle.std.proofs.Common.{◌≡◌, ◌<◌, ℕ, length, slice_index}
use Rattle.partition_graph.specs.Places.{home}
use Rattle.partition_graph.proofs.places.homes.Given as goal

abbrev pub invariant-loop-x : goal.invariant-loop-x
invariant-loop-x l = record {
  long : length l.homes.items ≡ l.x;
  each : (y : ℕ) → y < l.x → slice_index l.homes.items y ≡ home l.c y;
}
