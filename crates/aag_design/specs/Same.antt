-- When a design that is read does the same as its graph.
use Rattle.std.specs.Prelude.{◌≡◌, ℕ, ◌<◌, Bool, List, ◌++◌, length, map}
use Rattle.flat_net.specs.Free.{FreeDesign}
use Rattle.net_meaning.specs.Meaning.{row_at, AreRows, IsFreeTrace}
use Rattle.aag_text.specs.declared.aig.Literal.{Literal}
use Rattle.aag_text.specs.declared.aig.Latch.{Latch}
use Rattle.aag_text.specs.declared.aig.Gate.{Gate}
use Rattle.aag_text.specs.Aig.{PlainAig, literal_value, positive}
use Rattle.aag_text.specs.Traces.{IsAigTrace}
use Rattle.aag_text.specs.Same.{latch_bits}
use Rattle.aag_design.specs.Draft.{each_node}

-- the literal of each net, in order: the inputs, 0 for `f`, the latches, the gates, the next literals and the outputs
abbrev pub net_literals : PlainAig → List Literal
net_literals a =
    map positive a.inputs ++
    each_node a (positive 0) (λ j (l : Latch). positive l.variable) (λ (g : Gate). positive g.variable) (λ j l. l) (λ k l. l)

-- for all inputs and start values the graph has a trace, and in all cycles each net of the design's trace has the value of its literal in each
-- trace of the graph; w has a bit for each node of the design, and the graph's list of start values has those of the latches, in order
pub record DoesTheSame (n : FreeDesign) (a : PlainAig) : Type 0 where
  pub some : (w : List Bool) (ins : List (List Bool)) → AreRows n.design.net ins
      → (tr : ℕ → ℕ → Bool) × IsAigTrace a (latch_bits n.design.net w) ins tr
  pub each : (w : List Bool) (ins : List (List Bool)) → AreRows n.design.net ins
      → (rows : List (List Bool)) → IsFreeTrace n.design.net n.free w ins rows
      → (tr : ℕ → ℕ → Bool) → IsAigTrace a (latch_bits n.design.net w) ins tr
      → (t : ℕ) → t < length ins → row_at rows t ≡ map (literal_value (tr t)) (net_literals a)
