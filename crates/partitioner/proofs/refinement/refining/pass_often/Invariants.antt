use Rattle.std.proofs.Common.{◌≡◌, ◌-◌, ◌≤◌}
use Rattle.partitioner.specs.Refining.{refined}
use Rattle.partitioner.specs.Private.Tracking.{held_parts}
use Rattle.partitioner.specs.Private.Ready.{IsReady}
use Rattle.partitioner.specs.Private.Resting.{Rests}
use Rattle.partitioner.proofs.refinement.refining.pass_often.Given as goal

abbrev pub invariant-loop-left : goal.invariant-loop-left
invariant-loop-left l = IsReady l.n.net l.size l.p l.spots l.tallies × (held_parts l.p ≡ refined l.n.net l.size (held_parts l.initial.p) (l.passes - l.left)) × (l.left ≤ l.passes) × Rests l.n.net l.p.of.items l.rest

abbrev pub decreases-loop-left : goal.decreases-loop-left
decreases-loop-left l = l.left
