-- The design of a file, or why there is none.
use Rattle.std.specs.Prelude.{◌≡◌, ℕ, ◌<◌, ◌≤◌, List, length}
use Rattle.flat_net.specs.First.{IsFirst}
use Rattle.flat_net.specs.Faults.{net_of_draft}
use Rattle.flat_net.specs.Free.{FreeDesign}
use Rattle.blif_writer.specs.Text.{free_text}
use Rattle.aag_text.specs.Aig.{PlainAig}
use Rattle.aag_text.specs.Lines.{IsFile}
use Rattle.aag_reader.specs.BadLine.{IsFirstBadLine}
use Rattle.aag_text.specs.Variables.{defined, is_among, is_undefined, read_variables, IsDefinedOnce, IsDefined}
use Rattle.aag_design.specs.declared.fault.AagFault.{AagFault}
use Rattle.aag_design.specs.declared.fault.AagFault.TheVariants.{Line, Doubled, Undefined, Loop, TooLarge, Memory}
use Rattle.aag_design.specs.declared.file.CountedDesign.{CountedDesign}
use Rattle.aag_design.specs.Counts.{counts_of}
use Rattle.aag_design.specs.Draft.{aig_draft, aig_marks}
use Rattle.aag_design.specs.Loop.{IsLoop, HasNoLoop}
use Rattle.aag_design.specs.Same.{DoesTheSame}

-- the flat text of the design of a graph
unfoldable pub design_text : PlainAig → List ℕ
design_text a = free_text (net_of_draft (aig_draft a)) (aig_marks a)

-- a file of this graph, in which each variable is defined once, and each that is read is defined
pub record IsGraphOf (bytes : List ℕ) (a : PlainAig) : Type 0 where
  pub file : IsFile bytes a
  pub once : IsDefinedOnce a
  pub known : IsDefined a

-- the fault is there, and none of those before it
abbrev pub IsFaultOf : List ℕ → ℕ → AagFault → Type 0
IsFaultOf bytes limit (Line number) = IsFirstBadLine bytes number
IsFaultOf bytes limit (Doubled v) = (a : PlainAig) × IsFile bytes a × IsFirst is_among (defined a) v
IsFaultOf bytes limit (Undefined v) = (a : PlainAig) × IsFile bytes a × IsDefinedOnce a × IsFirst (is_undefined a) (read_variables a) v
IsFaultOf bytes limit (Loop variables) = (a : PlainAig) × IsGraphOf bytes a × IsLoop a variables.items
IsFaultOf bytes limit TooLarge = (a : PlainAig) × IsGraphOf bytes a × HasNoLoop a × (limit < length (design_text a))
IsFaultOf bytes limit Memory = Unit {0}

-- the design of this graph, which does the same
pub record IsDesignOf (a : PlainAig) (n : FreeDesign) : Type 0 where
  pub net : n.design.net ≡ net_of_draft (aig_draft a)
  pub marks : n.free ≡ aig_marks a
  pub same : DoesTheSame n a

-- the file has no fault, and gives this design
pub record IsReadAs (bytes : List ℕ) (limit : ℕ) (n : FreeDesign) : Type 0 where
  pub graph : PlainAig
  pub of : IsGraphOf bytes graph
  pub no_loop : HasNoLoop graph
  pub small : length (design_text graph) ≤ limit
  pub design : IsDesignOf graph n

-- the same, and these are the numbers of the graph
pub record IsReadCounted (bytes : List ℕ) (limit : ℕ) (r : CountedDesign) : Type 0 where
  pub read : IsReadAs bytes limit r.net
  pub counts : r.counts ≡ counts_of read.graph
