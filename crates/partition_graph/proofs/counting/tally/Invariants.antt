use Rattle.partition_graph.proofs.CountLaws.{AreSoFar}
use Rattle.partition_graph.proofs.counting.tally.Given as goal

abbrev pub invariant-loop-x : goal.invariant-loop-x
invariant-loop-x l = AreSoFar l.values l.bits l.count l.x l.counts.items
