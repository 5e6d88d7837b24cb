use Rattle.std.proofs.Common.{◌*◌}
use Rattle.dwc.specs.Guard.{guard_net}
use Rattle.dwc.specs.Making.{IsMade}
use Rattle.dwc.proofs.twins.push_twins.Given as goal

abbrev pub invariant-loop-i : goal.invariant-loop-i
invariant-loop-i l = IsMade (guard_net l.n.net) (2 * l.i) l.made
