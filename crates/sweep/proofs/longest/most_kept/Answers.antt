use Rattle.sweep.specs.Private.Reaching.{voted_by, kept}
use Rattle.sweep.proofs.ReachLaws.{most_none, most_more}
use Rattle.sweep.proofs.longest.most_kept.Goals as goal

pub loop-y-init : goal.loop-y-init
loop-y-init c = most_none (kept c.args.n.now.net (voted_by c.args.n.now.net c.args.votes.now) c.args.reach.now)

pub loop-y-preserved : goal.loop-y-preserved
loop-y-preserved c = most_more (kept c.args.n.now.net (voted_by c.args.n.now.net c.args.votes.now) c.args.reach.now) c.loop-y.y c.loop-y.most c.kept.result c.greater-most.result c.loop-y.invariant c.kept.ensures c.greater-most.ensures
