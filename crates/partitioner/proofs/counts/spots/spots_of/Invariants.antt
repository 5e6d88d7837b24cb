use Rattle.partitioner.proofs.SpotLaws.{SpottedBelow}
use Rattle.partitioner.proofs.counts.spots.spots_of.Given as goal

abbrev pub invariant-loop-x : goal.invariant-loop-x
invariant-loop-x l = SpottedBelow l.n.net l.p.of.items l.p.count l.x l.spots
