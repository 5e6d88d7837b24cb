use Rattle.std.proofs.Common.{◌<◌, ◌≤◌, ℕ, get_or}
use Rattle.partitioner.specs.Private.Resting.{changed_at}
use Rattle.partitioner.proofs.refinement.resting.is_resting.Given as goal

abbrev pub invariant-loop-x : goal.invariant-loop-x
invariant-loop-x l = (k : ℕ) → k < l.x-index → changed_at l.rest (get_or l.x-items k 0) ≤ l.since
