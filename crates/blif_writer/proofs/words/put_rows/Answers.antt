use Rattle.std.proofs.Common.{◌∙◌, ◌++◌, ap, sym, arith, Bool}
use Rattle.std.proofs.lemmas.Option.{get_or_from_slice_get}
use Rattle.blif_writer.specs.Text.{row_line, line_text, lines_text, row_lines}
use Rattle.blif_writer.proofs.Putting.{line_more}
use Rattle.blif_writer.proofs.words.put_rows.Goals as goal

pub loop-i-preserved : goal.loop-i-preserved
loop-i-preserved c =
    let k = c.args.cover.now in
    let put = c.in_ok-put_row.ensures ∙ ap (λ (on : Bool). c.loop-i.out.items ++ line_text (row_line on c.row.result.now)) c.is_on.ensures in
    line_more (row_line k.is_on) c.loop-i.out.items c.put_row.new.out.items (c.args.out.now.items ++ lines_text (row_lines k)) k.rows c.loop-i.i c.row.result.now (omega arith) (sym (get_or_from_slice_get k.rows c.loop-i.i c.row.result.now c.row.result.now c.row.ensures.row)) put c.loop-i.invariant
