use Rattle.partitioner.specs.Private.Tracking.{held_parts}
use Rattle.partitioner.specs.Private.Spotting.{AreSpots}
use Rattle.partitioner.proofs.counts.spots.shut_full.Given as goal

abbrev pub invariant-loop-q : goal.invariant-loop-q
invariant-loop-q l = AreSpots l.n.net l.size (held_parts l.p) l.spots
