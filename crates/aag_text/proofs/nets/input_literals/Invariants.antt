use Rattle.std.proofs.Common.{◌≡◌}
use Rattle.aag_text.specs.Private.Nets.{input_literals}
use Rattle.aag_text.proofs.nets.input_literals.Given as goal

abbrev pub invariant-loop-i : goal.invariant-loop-i
invariant-loop-i l = l.literals.items ≡ input_literals l.i
