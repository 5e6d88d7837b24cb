-- Nodes that are packed one after the other.
use Rattle.std.specs.Prelude.{◌≡◌, ℕ, List, length, map, count_by}
use Rattle.flat_net.specs.declared.nodes.PackedNodes.{PackedNodes}
use Rattle.flat_net.specs.Nodes.{number_of}
use Rattle.flat_net.specs.Net.{Node, is_register}
use Rattle.flat_net.specs.Packed.{nodes_from, AreEnds}

-- with these names, the packed nodes are these
pub record Packs (names : List (List ℕ)) (packed : PackedNodes) (nodes : List Node) : Type 0 where
  pub named : length names ≡ length packed.bodies.items
  pub cut : AreEnds 0 packed.bodies.items packed.ends.items (length packed.pins.items)
  pub is : nodes_from 0 names packed.bodies.items packed.ends.items (map number_of packed.pins.items) ≡ nodes
  pub registers : packed.registers ≡ count_by is_register nodes
