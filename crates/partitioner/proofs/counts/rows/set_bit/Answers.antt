use Rattle.std.proofs.Common.{arith, ◌/◌, ◌%◌, ◌*◌, ◌^◌}
use Rattle.std.specs.Prelude.{bit_or}
use Rattle.partitioner.proofs.MarkLaws.{bits_kept, bit_elsewhere, bit_set_kept, bit_set_here, bit_past}
use Rattle.partitioner.proofs.counts.rows.set_bit.Goals as goal

pub returns-then-w-len-clause-kept : goal.returns-then-w-len-clause-kept
returns-then-w-len-clause-kept c = λ r h.
    let mask = 1 * 2 ^ (c.args.q % 64) % 18446744073709551616 in
    bits_kept c.args.row.now.items (c.args.q / 64) c.index_mut.result.now (bit_or c.index_mut.result.now mask) r (omega (arith, c.if-w-len.true, c.len.ensures)) c.index_mut.ensures.value (λ e was. bit_set_kept (r % 64) c.index_mut.result.now mask was) h

pub returns-then-w-len-clause-added : goal.returns-then-w-len-clause-added
returns-then-w-len-clause-added c = bit_set_here c.args.row.now.items c.args.q c.index_mut.result.now (omega (arith, c.if-w-len.true, c.len.ensures))

pub returns-then-w-len-clause-others : goal.returns-then-w-len-clause-others
returns-then-w-len-clause-others c = λ r ne. bit_elsewhere c.args.row.now.items (c.args.q / 64) _ r ne

pub returns-else-w-len-clause-added : goal.returns-else-w-len-clause-added
returns-else-w-len-clause-added c = bit_past c.args.row.now.items c.args.q (omega (arith, c.if-w-len.false, c.len.ensures))
