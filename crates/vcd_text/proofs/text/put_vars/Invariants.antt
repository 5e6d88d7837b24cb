use Rattle.std.proofs.Common.{◌≡◌, ◌++◌, drop}
use Rattle.vcd_text.specs.Text.{var_lines, lines_text}
use Rattle.vcd_text.proofs.text.put_vars.Given as goal

abbrev pub invariant-loop-k : goal.invariant-loop-k
invariant-loop-k l = l.out.items ++ lines_text (var_lines l.k (drop l.k l.names)) ≡ l.fn.out.items ++ lines_text (var_lines 0 l.names)
