use Rattle.std.proofs.Common.{arith, ◌∙◌}
use Rattle.node_reads.proofs.LoggedLaws.{counted_more, counted_few, counted_all}
use Rattle.node_reads.proofs.notes.counted.Goals as goal

pub overflow_add-count : goal.overflow_add-count
overflow_add-count c =
    omega (
      arith,
      c.requires,
      counted_more c.args.log.now c.loop-k.k c.args.x c.loop-k.count c.count_one-count.result c.loop-k-test.true c.loop-k.invariant c.count_one-count.ensures,
      counted_few c.args.log.now c.loop-k.k c.args.x c.loop-k-test.true,
    )

pub loop-k-preserved : goal.loop-k-preserved
loop-k-preserved c = counted_more c.args.log.now c.loop-k.k c.args.x c.loop-k.count c.count_one-count.result c.loop-k-test.true c.loop-k.invariant c.count_one-count.ensures

pub returns : goal.returns
returns c = c.loop-k.invariant ∙ counted_all c.args.log.now c.loop-k.k c.args.x c.loop-k-test.false
