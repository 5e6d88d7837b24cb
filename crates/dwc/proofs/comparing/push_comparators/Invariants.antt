use Rattle.std.proofs.Common.{◌+◌, ◌*◌, length}
use Rattle.dwc.specs.Guard.{guard_net}
use Rattle.dwc.specs.Making.{IsMade}
use Rattle.dwc.proofs.comparing.push_comparators.Given as goal

abbrev pub invariant-loop-k : goal.invariant-loop-k
invariant-loop-k l = IsMade (guard_net l.n.net) (2 * length l.n.net.nodes + l.k) l.made
