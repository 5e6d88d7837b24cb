-- A graph as it is drafted.
use Rattle.std.specs.Prelude.{◌≡◌, ℕ, ◌+◌, ◌^◌, ◌<◌, ◌≤◌, Bool, false, codes, List, [], ◌∷◌, Option, Some, None, map, length, slice_get, slice_index}
use Rattle.limits.specs.Most.{widest_original}
use Rattle.tmr_base.specs.Numbers.{number_of}
use Rattle.flat_net.specs.Draft.{PlainDraft}
use Rattle.graph.specs.Turned.{IsTurned}
use Rattle.aag_text.specs.Aig.{PlainAig, plain_aig}
use Rattle.aag_text.specs.Variables.{defined, IsDefinedOnce, IsDefined}
use Rattle.aag_reader.specs.declared.file.Graph.{Graph}
use Rattle.aag_design.specs.declared.fault.AagFault.{AagFault}
use Rattle.aag_design.specs.declared.fault.AagFault.TheVariants.{Line, Doubled, Undefined, Loop, TooLarge, Memory}
use Rattle.aag_design.specs.Draft.{map_from, each_node, numbered, starts_free, aig_elements}
use Rattle.aag_design.specs.Loop.{IsLoop}

-- the draft and the marks of a graph's design, for proofs that look into them
abbrev pub plain_draft : PlainAig → PlainDraft
plain_draft a = record {
  model = codes "aig";
  inputs = map_from (λ i v. numbered 105 i) 0 a.inputs;
  outputs = map_from (λ k l. numbered 111 k) 0 a.outputs;
  elements = aig_elements a;
}

abbrev pub plain_marks : PlainAig → List Bool
plain_marks a = each_node a false (λ j l. starts_free l.start) (λ g. false) (λ j l. false) (λ k l. false)

-- a graph with its variables, whose numbers fit
pub record IsGraph (g : Graph) : Type 0 where
  pub inputs : length g.aig.inputs.items < 4294967296
  pub latches : length g.aig.latches.items < 4294967296
  pub outputs : length g.aig.outputs.items < 4294967296
  pub variables : g.variables.keys ≡ defined (plain_aig g.aig)

-- the number behind a letter, if there is one
abbrev pub number_behind : List ℕ → Option ℕ
number_behind [] = None
number_behind (letter ∷ digits) = number_of 32 digits

-- these numbers are all there, and turned so that the least stands first
pub record IsTurnedFrom (named : List (Option ℕ)) (found : List ℕ) : Type 0 where
  pub numbers : List ℕ
  pub are : map Some numbers ≡ named
  pub turned : IsTurned numbers (slice_index numbers 0) found

-- what is known of a file's graph: few entries, each variable defined once, and each that is read defined; variables begin with 1, and fit
pub record IsSound (a : PlainAig) : Type 0 where
  pub few : length a.inputs + length a.latches + length a.outputs + length a.gates ≤ widest_original
  pub once : IsDefinedOnce a
  pub known : IsDefined a
  pub variables : (p u : ℕ) → slice_get (defined a) p ≡ Some u → (0 < u) × (u < 2 ^ 32)

-- a loop of gates, or want of memory
abbrev pub IsLoopOf : PlainAig → AagFault → Type 0
IsLoopOf a (Line number) = ⊥
IsLoopOf a (Doubled v) = ⊥
IsLoopOf a (Undefined v) = ⊥
IsLoopOf a (Loop variables) = IsLoop a variables.items
IsLoopOf a TooLarge = ⊥
IsLoopOf a Memory = Unit {0}
