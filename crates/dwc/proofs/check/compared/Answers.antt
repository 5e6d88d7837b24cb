use Rattle.std.proofs.Common.{refl, arith}
use Rattle.dwc.proofs.check.compared.Goals as goal

pub returns-in-Some : goal.returns-in-Some
returns-in-Some c = record {
  known = (omega arith, omega arith);
  frame = λ e. absurd (omega (arith, e));
  later = λ h. c.if-not-same_frame.ensures.0 refl;
  nodes = λ e. c.in-Some.ensures;
  outputs = λ e. absurd (omega (arith, e));
}
