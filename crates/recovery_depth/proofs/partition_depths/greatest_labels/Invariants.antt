use Rattle.recovery_depth.proofs.GreatestLaws.{AreSoFar}
use Rattle.recovery_depth.proofs.partition_depths.greatest_labels.Given as goal

abbrev pub invariant-loop-x : goal.invariant-loop-x
invariant-loop-x l = AreSoFar l.parts l.labels l.depths.items l.x
