use Rattle.std.proofs.Common.{◌≡◌, ◌++◌, map, drop}
use Rattle.blif_writer.specs.Text.{lines_text}
use Rattle.aag_text.specs.Text.{latch_line}
use Rattle.aag_text.proofs.text.put_latches.Given as goal

abbrev pub invariant-loop-latch : goal.invariant-loop-latch
invariant-loop-latch l = l.out.items ++ lines_text (map latch_line (drop l.latch-index l.latches)) ≡ l.fn.out.items ++ lines_text (map latch_line l.latches)
