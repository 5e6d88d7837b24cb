use Rattle.std.proofs.Common.{◌≡◌, ◌+◌, map, take}
use Rattle.flat_net.specs.Nodes.{number_of}
use Rattle.flat_net.proofs.building.order.nets_of.Given as goal

abbrev pub invariant-loop-x : goal.invariant-loop-x
invariant-loop-x l = map number_of l.nets.items ≡ map (λ x. l.inputs + x) (take l.x-index l.nodes)
