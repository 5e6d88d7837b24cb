use Rattle.std.proofs.Common.{map, take}
use Rattle.flat_net.specs.Nodes.{number_of}
use Rattle.flat_net.specs.DraftView.{plain_element}
use Rattle.flat_net.specs.Private.Wired.{AreWires}
use Rattle.flat_net.proofs.building.wires.wire.Given as goal

abbrev pub invariant-loop-element : goal.invariant-loop-element
invariant-loop-element l = AreWires l.names.keys (map plain_element (take l.element-index l.elements)) (map number_of l.wires.pins.items) l.wires.ends.items l.wires.registers
