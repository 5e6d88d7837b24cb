use Rattle.std.proofs.Common.{sym, ◌∙◌, arith}
use Rattle.tmr_base.specs.declared.copies.CopyNo.TheVariants.{First}
use Rattle.hardened_pair.specs.Private.Layouts.{net_of, partitions, voted}
use Rattle.triplicate.proofs.Numbering.{copy_net_input}
use Rattle.triplicate.proofs.Places.{first_is_start}
use Rattle.hardened_pair.proofs.pins.first_copy.Goals as goal

pub overflow_mul-result : goal.overflow_mul-result
overflow_mul-result c = omega (arith, c.requires.layout.room.nets, c.if-x-input_count.true, c.input_count.ensures.count)

pub returns-then-x-input_count : goal.returns-then-x-input_count
returns-then-x-input_count c = omega (arith, copy_net_input (net_of c.args.layout.now) (partitions c.args.layout.now) (voted c.args.layout.now) c.args.x First (omega (arith, c.if-x-input_count.true, c.input_count.ensures.count)))

pub returns-else-x-input_count : goal.returns-else-x-input_count
returns-else-x-input_count c = c.start_of.ensures ∙ sym (first_is_start (net_of c.args.layout.now) (partitions c.args.layout.now) (voted c.args.layout.now) c.args.x (omega (arith, c.if-x-input_count.false, c.input_count.ensures.count)))
