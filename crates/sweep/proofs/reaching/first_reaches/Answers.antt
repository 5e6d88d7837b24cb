use Rattle.sweep.proofs.ReachLaws.{first_more}
use Rattle.sweep.proofs.reaching.first_reaches.Goals as goal

pub loop-x-preserved : goal.loop-x-preserved
loop-x-preserved c = first_more c.args.n.now.net c.loop-x.x c.first_reach.result c.loop-x.reach.items c.push.new.self.items c.loop-x.invariant c.first_reach.ensures c.in_ok-push.ensures.items
