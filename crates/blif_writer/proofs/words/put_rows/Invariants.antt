use Rattle.std.proofs.Common.{◌≡◌, ◌++◌, drop, map}
use Rattle.blif_writer.specs.Text.{row_line, lines_text, row_lines}
use Rattle.blif_writer.proofs.words.put_rows.Given as goal

abbrev pub invariant-loop-i : goal.invariant-loop-i
invariant-loop-i l = l.out.items ++ lines_text (map (row_line l.cover.is_on) (drop l.i l.cover.rows)) ≡ l.fn.out.items ++ lines_text (row_lines l.cover)
