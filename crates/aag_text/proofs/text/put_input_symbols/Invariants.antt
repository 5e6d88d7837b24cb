use Rattle.std.proofs.Common.{◌≡◌, ◌++◌, drop}
use Rattle.blif_writer.specs.Text.{lines_text}
use Rattle.aag_text.specs.Text.{symbol_lines}
use Rattle.aag_text.proofs.text.put_input_symbols.Given as goal

abbrev pub invariant-loop-i : goal.invariant-loop-i
invariant-loop-i l = l.out.items ++ lines_text (symbol_lines 105 l.i (drop l.i l.n.net.inputs)) ≡ l.fn.out.items ++ lines_text (symbol_lines 105 0 l.n.net.inputs)
