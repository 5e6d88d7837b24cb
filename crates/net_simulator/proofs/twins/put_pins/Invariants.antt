use Rattle.std.proofs.Common.{◌≡◌, take}
use Rattle.flat_net.specs.Net.{node_of, pins_at}
use Rattle.net_simulator.proofs.twins.put_pins.Given as goal

abbrev pub invariant-loop-j : goal.invariant-loop-j
invariant-loop-j l = l.row.items ≡ take l.j (pins_at (node_of l.h.net l.y))
