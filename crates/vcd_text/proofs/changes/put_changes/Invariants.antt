use Rattle.std.proofs.Common.{◌-◌, ◌≡◌, ◌++◌}
use Rattle.vcd_text.specs.Text.{changes_from, lines_text}
use Rattle.vcd_text.proofs.changes.put_changes.Given as goal

abbrev pub invariant-loop-k : goal.invariant-loop-k
invariant-loop-k l = l.out.items ++ lines_text (changes_from l.values l.count l.t l.k (l.count - l.k)) ≡ l.fn.out.items ++ lines_text (changes_from l.values l.count l.t 0 l.count)
