use Rattle.std.proofs.Common.{◌≡◌, ◌*◌, take}
use Rattle.dwc.specs.Guard.{guard_net}
use Rattle.dwc.proofs.names.input_names.Given as goal

abbrev pub invariant-loop-i : goal.invariant-loop-i
invariant-loop-i l = l.names.keys ≡ take (2 * l.i) (guard_net l.n.net).inputs
