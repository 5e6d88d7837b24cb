-- What a design shows of its fields.
use Rattle.std.specs.Prelude.{◌≡◌, ◌+◌, length, map, take, drop}
use Rattle.flat_net.specs.declared.wiring.Wiring.TheInside.{Inside}
use Rattle.flat_net.specs.Nodes.{number_of}
use Rattle.flat_net.specs.Net.{Net, register_count, IsUnordered}
use Rattle.flat_net.specs.Packed.{nodes_from, AreEnds}

abbrev pub net_of : Inside → Net
net_of w = record {
  model = w.model;
  inputs = take w.inputs w.names.keys;
  nodes = nodes_from 0 (drop w.inputs w.names.keys) w.nodes.bodies.items w.nodes.ends.items (map number_of w.nodes.pins.items);
  outputs = map number_of w.outputs.items;
  clock = w.clock;
}

-- what the fields keep: a name for each net, ends that cut the pins, the number of registers, and a design that is valid but for an order
pub record IsWiring (w : Inside) : Type 0 where
  pub named : length w.names.keys ≡ w.inputs + length w.nodes.bodies.items
  pub cut : AreEnds 0 w.nodes.bodies.items w.nodes.ends.items (length w.nodes.pins.items)
  pub registers : w.nodes.registers ≡ register_count (net_of w)
  pub net : IsUnordered (net_of w)
