use Rattle.std.proofs.Common.{◌≡◌, ◌++◌, take}
use Rattle.flat_net.specs.Net.{node_of}
use Rattle.net_simulator.specs.Truth.{short_pins}
use Rattle.net_simulator.proofs.truth.push_pins.Given as goal

abbrev pub invariant-loop-i : goal.invariant-loop-i
invariant-loop-i l = l.pins.items ≡ l.fn.pins.items ++ take l.i (short_pins (node_of l.net.net l.x.0))
