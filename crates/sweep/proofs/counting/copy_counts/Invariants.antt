use Rattle.sweep.specs.Private.Counting.{AreSoFar}
use Rattle.sweep.proofs.counting.copy_counts.Given as goal

abbrev pub invariant-loop-x : goal.invariant-loop-x
invariant-loop-x l = AreSoFar l.n.net l.plan l.x l.counts.items
