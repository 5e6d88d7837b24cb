use Rattle.partition_graph.proofs.PlaceLaws.{ArePlacedSoFar}
use Rattle.partition_graph.proofs.places.places.Given as goal

abbrev pub invariant-loop-p : goal.invariant-loop-p
invariant-loop-p l = ArePlacedSoFar l.c l.nodes l.exactly.items l.p l.seen.items l.places.items
