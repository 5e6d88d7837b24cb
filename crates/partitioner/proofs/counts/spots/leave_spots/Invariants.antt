use Rattle.partitioner.specs.Private.Tracking.{held_parts}
use Rattle.partitioner.specs.Private.Spotting.{AreSpots}
use Rattle.partitioner.proofs.counts.spots.leave_spots.Given as goal

abbrev pub invariant-loop-x : goal.invariant-loop-x
invariant-loop-x l = AreSpots l.n.net l.size (held_parts l.p) l.spots
