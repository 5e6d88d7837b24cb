use Rattle.std.proofs.Common.{length, ◌∙◌, ap}
use Rattle.graph.specs.Private.Packed.{span_in}
use Rattle.graph.proofs.PackedLaws.{order_at, end_at, row_at}
use Rattle.graph.proofs.deciding.bit_row.Goals as goal

pub part-requires-clause-order : goal.part-requires-clause-order
part-requires-clause-order c = rw c.at.ensures (order_at c.args.spans.now (length c.args.bits.now) c.args.x c.requires.packed c.requires.within)

pub part-requires-clause-end : goal.part-requires-clause-end
part-requires-clause-end c = rw c.at.ensures (end_at c.args.spans.now (length c.args.bits.now) c.args.x c.requires.packed c.requires.within)

pub returns : goal.returns
returns c = c.part.ensures ∙ (ap (span_in c.args.bits.now) c.at.ensures ∙ row_at c.args.bits.now c.args.spans.now c.args.x c.requires.within)
