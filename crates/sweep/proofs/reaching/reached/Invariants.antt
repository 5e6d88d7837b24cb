use Rattle.sweep.specs.Private.Reaching.{voted_by, AreReached}
use Rattle.sweep.proofs.reaching.reached.Given as goal

abbrev pub invariant-loop-i : goal.invariant-loop-i
invariant-loop-i l = AreReached l.n.net (voted_by l.n.net l.votes) l.n.order l.i l.reach.items
