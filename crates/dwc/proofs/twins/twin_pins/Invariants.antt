use Rattle.std.proofs.Common.{◌≡◌, map, take}
use Rattle.flat_net.specs.Net.{node_of, pins_at}
use Rattle.flat_net.specs.Nodes.{number_of}
use Rattle.dwc.specs.Guard.{twin}
use Rattle.dwc.proofs.twins.twin_pins.Given as goal

abbrev pub invariant-loop-j : goal.invariant-loop-j
invariant-loop-j l = map number_of l.pins.items ≡ map (twin l.c) (take l.j (pins_at (node_of l.n.net l.x.0)))
