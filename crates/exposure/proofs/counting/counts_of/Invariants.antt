use Rattle.exposure.proofs.CountLaws.{AreSoFar}
use Rattle.exposure.proofs.counting.counts_of.Given as goal

abbrev pub invariant-loop-g : goal.invariant-loop-g
invariant-loop-g l = AreSoFar l.c l.copy l.g l.counts.items
