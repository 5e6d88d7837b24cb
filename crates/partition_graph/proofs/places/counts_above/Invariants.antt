use Rattle.partition_graph.proofs.PlaceLaws.{AreAbove}
use Rattle.partition_graph.proofs.places.counts_above.Given as goal

abbrev pub invariant-loop-left : goal.invariant-loop-left
invariant-loop-left l = AreAbove l.numbers l.exactly l.left l.sum l.above.items

abbrev pub decreases-loop-left : goal.decreases-loop-left
decreases-loop-left l = l.left
