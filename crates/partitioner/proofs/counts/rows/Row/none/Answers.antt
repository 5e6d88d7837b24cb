use Rattle.std.proofs.Common.{◌/◌, length, ap, arith}
use Rattle.partitioner.proofs.MarkLaws.{bit_past}
use Rattle.partitioner.proofs.counts.rows.Row.none.Goals as goal

pub invariant_of-result : goal.invariant_of-result
invariant_of-result c = λ q h. bit_past c.new-2.result.items (q / 64) (omega (arith, ap length c.new-2.ensures.items))
