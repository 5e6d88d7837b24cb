use Rattle.std.proofs.Common.{◌≡◌, ◌++◌, false, replicate}
use Rattle.aag_design.proofs.marks.push_tables.Given as goal

abbrev pub invariant-loop : goal.invariant-loop
invariant-loop l = l.marks.items ≡ l.fn.marks.items ++ replicate l.counter false
