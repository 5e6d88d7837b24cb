use Rattle.partitioner.proofs.NearLaws.{MarksBelow}
use Rattle.partitioner.proofs.counts.marking.marks_of.Given as goal

abbrev pub invariant-loop-x : goal.invariant-loop-x
invariant-loop-x l = MarksBelow l.n.net l.of l.x l.marks
