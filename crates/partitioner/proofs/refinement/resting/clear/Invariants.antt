use Rattle.std.proofs.Common.{◌≡◌, ◌<◌, ℕ, length, slice_index}
use Rattle.partitioner.proofs.refinement.resting.clear.Given as goal

abbrev pub invariant-loop-j : goal.invariant-loop-j
invariant-loop-j l = record {
  long : length l.times.items ≡ length l.fn.times.items;
  never : (k : ℕ) → k < l.j → slice_index l.times.items k ≡ 0;
}
