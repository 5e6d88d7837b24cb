use Rattle.std.proofs.Common.{◌-◌, ◌≡◌}
use Rattle.vcd_text.specs.Text.{changes_from, has_lines}
use Rattle.vcd_text.proofs.changes.has_changes.Given as goal

abbrev pub invariant-loop-k : goal.invariant-loop-k
invariant-loop-k l = has_lines (changes_from l.values l.count l.t l.k (l.count - l.k)) ≡ has_lines (changes_from l.values l.count l.t 0 l.count)
