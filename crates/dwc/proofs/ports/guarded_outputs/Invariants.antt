use Rattle.std.proofs.Common.{◌≡◌, map, take}
use Rattle.std.specs.List.{flat_map}
use Rattle.flat_net.specs.Nodes.{number_of}
use Rattle.dwc.specs.Guard.{twin, twofold}
use Rattle.dwc.proofs.ports.guarded_outputs.Given as goal

abbrev pub invariant-loop-k : goal.invariant-loop-k
invariant-loop-k l = map number_of l.outputs.items ≡ flat_map (λ y. twofold (λ c. twin c y)) (take l.k l.n.net.outputs)
