use Rattle.reports.proofs.CountLaws.{AreSoFar}
use Rattle.reports.proofs.counting.counts.Given as goal

abbrev pub invariant-loop-x : goal.invariant-loop-x
invariant-loop-x l = AreSoFar l.parts.of l.bits l.parts.count l.x l.counts.items
