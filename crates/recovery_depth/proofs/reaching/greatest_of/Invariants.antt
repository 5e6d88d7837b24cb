use Rattle.std.proofs.Common.{get_or}
use Rattle.recovery_depth.proofs.GreatestLaws.{IsMost}
use Rattle.recovery_depth.proofs.reaching.greatest_of.Given as goal

abbrev pub invariant-loop-x : goal.invariant-loop-x
invariant-loop-x l = IsMost (λ i. get_or l.reaches (get_or l.row i 0) 0) l.x-index l.greatest
