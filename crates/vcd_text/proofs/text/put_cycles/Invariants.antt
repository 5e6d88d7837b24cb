use Rattle.std.proofs.Common.{◌-◌, ◌≡◌, ◌++◌}
use Rattle.vcd_text.specs.Text.{cycles_from, lines_text}
use Rattle.vcd_text.proofs.text.put_cycles.Given as goal

abbrev pub invariant-loop-t : goal.invariant-loop-t
invariant-loop-t l = l.out.items ++ lines_text (cycles_from l.values l.count l.t (l.cycles - l.t)) ≡ l.fn.out.items ++ lines_text (cycles_from l.values l.count 0 l.cycles)
