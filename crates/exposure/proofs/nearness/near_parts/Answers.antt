use Rattle.std.proofs.Common.{arith}
use Rattle.exposure.proofs.Bounds.{sum_more, sum_fits}
use Rattle.exposure.proofs.nearness.near_parts.Goals as goal

pub overflow_add-total : goal.overflow_add-total
overflow_add-total c = omega (arith, sum_fits c.args.c.now c.loop-p.p c.loop-p.total c.near_part-total.result c.parts-p-end.ensures.cert c.loop-p.invariant c.near_part-total.ensures)

pub loop-p-preserved : goal.loop-p-preserved
loop-p-preserved c = sum_more c.args.c.now c.loop-p.p c.loop-p.total c.near_part-total.result c.loop-p.invariant c.near_part-total.ensures
