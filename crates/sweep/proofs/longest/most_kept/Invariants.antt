use Rattle.sweep.specs.Private.Reaching.{voted_by, kept, IsMostOf}
use Rattle.sweep.proofs.longest.most_kept.Given as goal

abbrev pub invariant-loop-y : goal.invariant-loop-y
invariant-loop-y l = IsMostOf (kept l.n.net (voted_by l.n.net l.votes) l.reach) l.y l.most
