use Rattle.std.proofs.Common.{length, arith}
use Rattle.exposure.proofs.Bounds.{total_fits}
use Rattle.exposure.proofs.nearness.near_total.Goals as goal

pub overflow_add-result : goal.overflow_add-result
overflow_add-result c = omega (arith, total_fits c.args.c.now (length c.args.c.now.depth) c.near_inputs-inputs.result c.near_parts-parts.result c.parts.ensures.cert c.near_inputs-inputs.ensures c.near_parts-parts.ensures)
