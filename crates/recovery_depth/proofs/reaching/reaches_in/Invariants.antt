use Rattle.recovery_depth.proofs.ReachLaws.{IsKnown}
use Rattle.recovery_depth.proofs.reaching.reaches_in.Given as goal

abbrev pub invariant-loop-x : goal.invariant-loop-x
invariant-loop-x l = IsKnown l.graph l.is_register l.order l.reaches.items l.x-index
