use Rattle.std.proofs.Common.{arith, ◌/◌, ◌%◌, ◌*◌, ◌-◌, ◌^◌}
use Rattle.std.specs.Prelude.{bit_and}
use Rattle.partitioner.proofs.MarkLaws.{bits_kept, bits_fewer, bit_clear_kept}
use Rattle.partitioner.proofs.counts.rows.clear_bit.Goals as goal

pub returns-then-w-len-clause-kept : goal.returns-then-w-len-clause-kept
returns-then-w-len-clause-kept c = λ r ne h.
    let mask = 18446744073709551615 - 1 * 2 ^ (c.args.q % 64) % 18446744073709551616 in
    bits_kept c.args.row.now.items (c.args.q / 64) c.index_mut.result.now (bit_and c.index_mut.result.now mask) r (omega (arith, c.if-w-len.true, c.len.ensures)) c.index_mut.ensures.value (λ e was. bit_clear_kept c.args.q r c.index_mut.result.now ne e was) h

pub returns-then-w-len-clause-fewer : goal.returns-then-w-len-clause-fewer
returns-then-w-len-clause-fewer c = λ r h.
    let mask = 18446744073709551615 - 1 * 2 ^ (c.args.q % 64) % 18446744073709551616 in
    bits_fewer c.args.row.now.items (c.args.q / 64) c.index_mut.result.now mask r (omega (arith, c.if-w-len.true, c.len.ensures)) c.index_mut.ensures.value h
