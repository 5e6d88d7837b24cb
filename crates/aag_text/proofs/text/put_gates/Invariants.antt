use Rattle.std.proofs.Common.{◌≡◌, ◌++◌, map, drop}
use Rattle.blif_writer.specs.Text.{lines_text}
use Rattle.aag_text.specs.Text.{gate_line}
use Rattle.aag_text.proofs.text.put_gates.Given as goal

abbrev pub invariant-loop-gate : goal.invariant-loop-gate
invariant-loop-gate l = l.out.items ++ lines_text (map gate_line (drop l.gate-index l.gates)) ≡ l.fn.out.items ++ lines_text (map gate_line l.gates)
