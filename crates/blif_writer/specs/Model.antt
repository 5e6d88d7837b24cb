-- The one model that the flat text of a design spells. `free` are the marks of registers whose value in cycle 0 is free.
use Rattle.std.specs.Prelude.{Bool, List, [], ◌++◌, map}
use Rattle.blif_text.specs.Models.{PlainElement, PlainModel, Table as TableElement, Register as LatchElement}
use Rattle.flat_net.specs.Net.{Net, Node, Table, Register, name_of}
use Rattle.blif_writer.specs.Text.{start_of, with_marks, net_words, clock_words}

-- a table with the names of its pins; a latch with the design's clock, if it has one
abbrev pub element_of : Net → Node × Bool → PlainElement
element_of n (Table name cover pins, free) = TableElement (net_words n pins) name cover
element_of n (Register name init pin, free) = LatchElement (name_of n pin) name n.clock (start_of free init)

-- the design's name, its inputs and last its clock, its outputs, and an element for each node in order
unfoldable pub free_model : Net → List Bool → PlainModel
free_model n free = record {
  name = n.model;
  inputs = n.inputs ++ clock_words n.clock;
  outputs = net_words n n.outputs;
  elements = map (element_of n) (with_marks free n.nodes);
}

-- the same without marks
abbrev pub model_of : Net → PlainModel
model_of n = free_model n []
