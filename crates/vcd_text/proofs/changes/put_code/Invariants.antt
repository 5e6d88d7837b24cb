use Rattle.std.proofs.Common.{◌≡◌, ◌++◌}
use Rattle.vcd_text.specs.Text.{code_text}
use Rattle.vcd_text.proofs.changes.put_code.Given as goal

abbrev pub invariant-loop-rest : goal.invariant-loop-rest
invariant-loop-rest l = l.out.items ++ code_text l.rest ≡ l.fn.out.items ++ code_text l.fn.k

abbrev pub decreases-loop-rest : goal.decreases-loop-rest
decreases-loop-rest l = l.rest
