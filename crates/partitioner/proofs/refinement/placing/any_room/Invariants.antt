use Rattle.std.proofs.Common.{◌≡◌, ℕ, ◌<◌, false, slice_index}
use Rattle.std.specs.Prelude.{nat_lt}
use Rattle.partitioner.specs.Sizes.{capacity}
use Rattle.partitioner.proofs.refinement.placing.any_room.Given as goal

abbrev pub invariant-loop-count : goal.invariant-loop-count
invariant-loop-count l = (k : ℕ) → k < l.count-index → nat_lt (slice_index l.held k) (capacity l.size) ≡ false
