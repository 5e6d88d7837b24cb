use Rattle.recovery_depth.proofs.SettledLaws.{AreSoFar}
use Rattle.recovery_depth.specs.Private.Uncut.{uncut_rows}
use Rattle.recovery_depth.proofs.bounding.bounded_labels.Given as goal

abbrev pub invariant-loop-x : goal.invariant-loop-x
invariant-loop-x l = AreSoFar (uncut_rows l.graph l.cut) l.is_register l.order l.marks.items l.labels.items l.most l.x-index
