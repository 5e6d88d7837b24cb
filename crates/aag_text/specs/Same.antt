-- When a design and a graph do the same.
use Rattle.std.specs.Prelude.{◌≡◌, ℕ, ◌+◌, ◌<◌, Bool, false, List, [], ◌∷◌, length, map, Option, Some, None, if◌then◌else◌}
use Rattle.flat_net.specs.Net.{Net, Node, Table, Register}
use Rattle.flat_net.specs.Free.{FreeDesign, node_bit}
use Rattle.net_meaning.specs.Meaning.{bit, row_at, AreRows, IsFreeTrace}
use Rattle.aag_text.specs.declared.aig.Latch.{Latch}
use Rattle.aag_text.specs.declared.aig.Start.{Start}
use Rattle.aag_text.specs.declared.aig.Start.TheVariants.{Zero, One, Free}
use Rattle.aag_text.specs.Aig.{PlainAig, literal_value}
use Rattle.aag_text.specs.Traces.{IsAigTrace}

-- the net numbers of the registers among nodes of which the first has number x
abbrev pub registers_from : ℕ → List Node → List ℕ
registers_from x [] = []
registers_from x (Table name cover pins ∷ nodes) = registers_from (x + 1) nodes
registers_from x (Register name init pin ∷ nodes) = x ∷ registers_from (x + 1) nodes

-- the net numbers of the registers, in order
abbrev pub registers : Net → List ℕ
registers n = registers_from (length n.inputs) n.nodes

-- of one bit for each node, those of the registers in order: one for each latch
abbrev pub latch_bits : Net → List Bool → List Bool
latch_bits n w = map (node_bit (length n.inputs) w) (registers n)

-- a register's initial value
abbrev pub init_of : Option Node → Bool
init_of None = false
init_of (Some (Table name cover pins)) = false
init_of (Some (Register name init pin)) = init

-- the start of a register that is marked as free or not
abbrev pub register_start : Bool → Option Node → Start
register_start free o = if free then Free else if init_of o then One else Zero

-- in one cycle the outputs have the values of the outputs, and the latches those of the registers, in order
pub record AgreesAt (n : Net) (a : PlainAig) (v : List Bool) (values : ℕ → Bool) : Type 0 where
  pub outputs : map (literal_value values) a.outputs ≡ map (bit v) n.outputs
  pub latches : map (λ (l : Latch). values l.variable) a.latches ≡ map (bit v) (registers n)

-- for all inputs and start values the graph has a trace, and each trace of it agrees in all cycles with each of the design's; w has a bit
-- for each node of the design, and the graph's list of start values has those of the registers, in order
pub record DoTheSame (n : FreeDesign) (a : PlainAig) : Type 0 where
  pub some : (w : List Bool) (ins : List (List Bool)) → AreRows n.design.net ins
      → (tr : ℕ → ℕ → Bool) × IsAigTrace a (latch_bits n.design.net w) ins tr
  pub each : (w : List Bool) (ins : List (List Bool)) → AreRows n.design.net ins
      → (rows : List (List Bool)) → IsFreeTrace n.design.net n.free w ins rows
      → (tr : ℕ → ℕ → Bool) → IsAigTrace a (latch_bits n.design.net w) ins tr
      → (t : ℕ) → t < length ins → AgreesAt n.design.net a (row_at rows t) (tr t)
