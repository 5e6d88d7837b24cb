-- Elements whose pins are net numbers.
use Rattle.std.specs.Prelude.{◌≡◌, ℕ, List, length, map, count_by}
use Rattle.std.specs.List.{flat_map}
use Rattle.flat_net.specs.Net.{is_register}
use Rattle.flat_net.specs.Draft.{Element, out_of, reads_of}
use Rattle.flat_net.specs.First.{HasNone}
use Rattle.flat_net.specs.Faults.{is_no_net, node_of_element}
use Rattle.flat_net.specs.Packed.{AreEnds, nodes_from}
use Rattle.flat_net.specs.Private.Bodies.{body_of}

-- cut at the ends, the pins are those of the elements' nodes, of which so many are registers
pub record AreWires (names : List (List ℕ)) (elements : List Element) (pins ends : List ℕ) (registers : ℕ) : Type 0 where
  pub total : length pins ≡ length (flat_map reads_of elements)
  pub cut : AreEnds 0 (map body_of elements) ends (length pins)
  pub nodes : nodes_from 0 (map out_of elements) (map body_of elements) ends pins ≡ map (node_of_element names) elements
  pub latches : registers ≡ count_by is_register (map (node_of_element names) elements)
  pub nets : HasNone (is_no_net names) (flat_map reads_of elements)
