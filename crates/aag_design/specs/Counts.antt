-- How many entries a graph has.
use Rattle.std.specs.Prelude.{Bool, length, count_by}
use Rattle.aag_text.specs.declared.aig.Latch.{Latch}
use Rattle.aag_text.specs.Aig.{PlainAig}
use Rattle.aag_design.specs.declared.counts.Counts.{Counts}
use Rattle.aag_design.specs.Draft.{starts_free}

abbrev pub is_free : Latch → Bool
is_free l = starts_free l.start

-- the numbers of a file's header, and how many latches are free in cycle 0
abbrev pub counts_of : PlainAig → Counts
counts_of a = record {
  inputs = length a.inputs;
  outputs = length a.outputs;
  latches = length a.latches;
  gates = length a.gates;
  free = count_by is_free a.latches;
}
