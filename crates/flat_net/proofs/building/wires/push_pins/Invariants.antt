use Rattle.std.proofs.Common.{◌≡◌, ◌++◌, map, take}
use Rattle.flat_net.specs.Nodes.{number_of}
use Rattle.flat_net.specs.First.{HasNone}
use Rattle.flat_net.specs.Faults.{is_no_net, number_in}
use Rattle.flat_net.proofs.building.wires.push_pins.Given as goal

abbrev pub invariant-loop-read : goal.invariant-loop-read
invariant-loop-read l = record {
  pins : map number_of l.pins.items ≡ map number_of l.initial.pins.items ++ map (number_in l.names.keys) (take l.read-index l.reads);
  nets : HasNone (is_no_net l.names.keys) (take l.read-index l.reads);
}
