use Rattle.std.proofs.Common.{arith}
use Rattle.sweep.proofs.CountLaws.{all_counted}
use Rattle.sweep.proofs.counting.copy_counts.Goals as goal

pub returns : goal.returns
returns c =
    all_counted c.args.n.now.net c.args.plan.now c.loop-x.x c.loop-x.counts.items (omega (arith, c.loop-x-test.false, c.loop-x.auto.x-end, c.input_count.ensures.count, c.nodes_of.ensures.count)) c.loop-x.invariant
