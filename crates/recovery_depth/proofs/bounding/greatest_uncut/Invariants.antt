use Rattle.std.proofs.Common.{get_or}
use Rattle.recovery_depth.specs.Private.Uncut.{uncut_entry}
use Rattle.recovery_depth.proofs.GreatestLaws.{IsMost}
use Rattle.recovery_depth.proofs.bounding.greatest_uncut.Given as goal

abbrev pub invariant-loop-place : goal.invariant-loop-place
invariant-loop-place l = IsMost (λ i. get_or l.labels (uncut_entry l.graph l.cut l.y i) 0) l.place l.greatest
