use Rattle.std.proofs.Common.{length, sym, ◌∙◌}
use Rattle.graph.proofs.EndLaws.{end_within, row_from}
use Rattle.graph.proofs.rows.row_at.Goals as goal

pub part-requires : goal.part-requires
part-requires c =
    let part = end_within 0 c.args.ends.now (length c.args.reads.now) c.args.x c.requires.ends c.requires.within in
    rw (c.piece-from.ensures.start, c.piece-from.ensures.end) (record { order = part.0; end = part.1 })

pub returns : goal.returns
returns c = c.part.ensures ∙ rw (c.piece-from.ensures.start, c.piece-from.ensures.end) (sym (row_from 0 c.args.ends.now c.args.reads.now c.args.x c.requires.within))
