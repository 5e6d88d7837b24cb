use Rattle.std.proofs.Common.{◌≡◌, ℕ, ◌<◌, take, length, slice_index}
use Rattle.partitioner.specs.Sizes.{held}
use Rattle.partitioner.proofs.counts.tracking.held_of.Given as goal

abbrev pub invariant-loop-q : goal.invariant-loop-q
invariant-loop-q l = (length l.holds.items ≡ l.count) × ((q : ℕ) → q < l.count → slice_index l.holds.items q ≡ held (take l.q-index l.of) q)
