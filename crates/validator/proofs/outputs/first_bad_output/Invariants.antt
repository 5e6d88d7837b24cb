use Rattle.std.proofs.Common.{ℕ, ◌<◌}
use Rattle.certificate.specs.Rules.{Rule8}
use Rattle.validator.proofs.outputs.first_bad_output.Given as goal

abbrev pub invariant-loop-j : goal.invariant-loop-j
invariant-loop-j l = (i : ℕ) → i < l.j → Rule8 l.n.net l.h.net l.c i
