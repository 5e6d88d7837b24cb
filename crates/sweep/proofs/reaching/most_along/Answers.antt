use Rattle.std.proofs.Common.{arith}
use Rattle.sweep.specs.Private.Reaching.{voted_by, along}
use Rattle.sweep.proofs.ReachLaws.{most_none, most_more}
use Rattle.sweep.proofs.reaching.most_along.Goals as goal

pub loop-j-init : goal.loop-j-init
loop-j-init c = record { most = most_none (along c.args.n.now.net (voted_by c.args.n.now.net c.args.votes.now) c.args.reach.now c.args.y); few = omega arith }

pub loop-j-preserved : goal.loop-j-preserved
loop-j-preserved c = record {
  most = most_more (along c.args.n.now.net (voted_by c.args.n.now.net c.args.votes.now) c.args.reach.now c.args.y) c.loop-j.j c.loop-j.most c.along.result c.greater-most.result c.loop-j.invariant.most c.along.ensures.value c.greater-most.ensures;
  few = omega (arith, c.loop-j.invariant.few, c.along.ensures.few, c.greater-most.ensures);
}
