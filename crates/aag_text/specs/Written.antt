-- The file of a design.
use Rattle.std.specs.Prelude.{◌≡◌, ℕ, ◌+◌, List, length, map, All}
use Rattle.std.specs.List.{range_with_len}
use Rattle.flat_net.specs.Net.{node_of}
use Rattle.flat_net.specs.Free.{FreeDesign, node_bit}
use Rattle.aag_text.specs.declared.aig.Latch.{Latch}
use Rattle.aag_text.specs.Aig.{PlainAig, ReadsLesser, IsGreaterFirst}
use Rattle.aag_text.specs.Variables.{defined, IsDefinedOnce, IsDefined}
use Rattle.aag_text.specs.Same.{registers, register_start, DoTheSame}
use Rattle.aag_text.specs.Taken.{gate_total}
use Rattle.aag_text.specs.Text.{aag_text}
use Rattle.aag_text.specs.Lines.{IsFile}

-- each variable is defined once: the inputs, the latches and the gates have the variables 1, 2 and so on, in this order; each literal that is
-- read is a constant or of a defined variable; and each gate reads lesser variables alone, so that no gate leads to itself
pub record IsWellDefined (a : PlainAig) : Type 0 where
  pub numbered : defined a ≡ range_with_len 1 (length a.inputs + length a.latches + length a.gates)
  pub once : IsDefinedOnce a
  pub known : IsDefined a
  pub lesser : All ReadsLesser a.gates

-- the bytes are the text of a graph that does the same, and a file of it: with an input for each input of the design, a latch for each
-- register in order with its start, as many gates as its tables take, each with the greater literal first, and the names of the inputs,
-- registers and outputs
pub record IsFileOf (n : FreeDesign) (bytes : List ℕ) : Type 0 where
  pub graph : PlainAig
  pub text : bytes ≡ aag_text (length graph.inputs + length graph.latches + length graph.gates) graph n.design.net
  pub file : IsFile bytes graph
  pub inputs : graph.inputs ≡ map (λ i. i + 1) (range_with_len 0 (length n.design.net.inputs))
  pub starts : map (λ (l : Latch). l.start) graph.latches
      ≡ map (λ x. register_start (node_bit (length n.design.net.inputs) n.free x) (node_of n.design.net x)) (registers n.design.net)
  pub defined : IsWellDefined graph
  pub gates : length graph.gates ≡ gate_total n.design.net
  pub greater : All IsGreaterFirst graph.gates
  pub same : DoTheSame n graph

-- the same, and the graph has so many gates
pub record IsCountedFile (n : FreeDesign) (bytes : List ℕ) (gates : ℕ) : Type 0 where
  pub file : IsFileOf n bytes
  pub count : gates ≡ length file.graph.gates
