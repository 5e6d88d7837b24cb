use Rattle.std.proofs.Common.{◌≡◌, map, take}
use Rattle.std.specs.List.{flat_map}
use Rattle.flat_net.specs.Nodes.{number_of}
use Rattle.dwc.specs.Guard.{twin, twofold}
use Rattle.dwc.proofs.ports.guarded_order.Given as goal

abbrev pub invariant-loop-i : goal.invariant-loop-i
invariant-loop-i l = map number_of l.order.items ≡ flat_map (λ y. twofold (λ c. twin c y)) (take l.i l.n.order)
