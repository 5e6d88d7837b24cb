-- The literals of a design's nets, table by table.
use Rattle.std.specs.Prelude.{◌≡◌, ℕ, ◌+◌, ◌<◌, ◌≤◌, Bool, false, List, [], ◌∷◌, ◌++◌, map, length, Option, Some, None, if◌then◌else◌, slice_index_or, slice_index}
use Rattle.std.specs.List.{range_with_len}
use Rattle.table_cover.specs.Cover.{cover_value}
use Rattle.flat_net.specs.Net.{Net, Design, Node, Table, Register, net_count, node_of, IsTable, is_register, register_count}
use Rattle.flat_net.specs.Free.{FreeDesign, node_bit}
use Rattle.net_meaning.specs.Meaning.{bit}
use Rattle.aag_text.specs.declared.aig.Literal.{Literal}
use Rattle.aag_text.specs.declared.aig.Latch.{Latch}
use Rattle.aag_text.specs.Aig.{PlainAig, literal_value, positive}
use Rattle.aag_text.specs.Same.{registers, register_start}
use Rattle.aag_text.specs.Taken.{gate_total}
use Rattle.hierarchy.specs.Sizes.{row_total}
use Rattle.aag_text.specs.Private.Gates.{PlainGates, next_of, AreMet, AreStacked, AreBelow}

-- the literal of net x
abbrev pub literal_at : List Literal → ℕ → Literal
literal_at literals x = slice_index_or literals x (positive 0)

abbrev pub is_register_at : Option Node → Bool
is_register_at None = false
is_register_at (Some node) = is_register node

-- the first literals of nodes: those of registers from `next` on, and 0 for a table
abbrev pub node_literals : ℕ → List Node → List Literal
node_literals next [] = []
node_literals next (node ∷ nodes) = positive (if is_register node then next else 0) ∷ node_literals (if is_register node then next + 1 else next) nodes

abbrev pub input_literals : ℕ → List Literal
input_literals count = map (λ i. positive (i + 1)) (range_with_len 0 count)

-- the first literals of all nets
abbrev pub first_literals : Net → List Literal
first_literals n = input_literals (length n.inputs) ++ node_literals (length n.inputs + 1) n.nodes

-- the value of a table where each net has its value
abbrev pub table_value : Option Node → (ℕ → Bool) → Bool
table_value None f = false
table_value (Some (Table name cover pins)) f = cover_value cover (map f pins)
table_value (Some (Register name init pin)) f = false

-- v has the values of these literals for all nets but the tables, and each table has the value that its pins give it
pub record IsCycle (n : Net) (literals : List Literal) (values : ℕ → Bool) (v : List Bool) : Type 0 where
  pub zero : values 0 ≡ false
  pub others : (x : ℕ) → x < net_count n → (IsTable (node_of n x) → ⊥) → literal_value values (literal_at literals x) ≡ bit v x
  pub tables : (x : ℕ) → x < net_count n → IsTable (node_of n x) → bit v x ≡ table_value (node_of n x) (bit v)

-- net x is no table, or one of the first i tables in this order
abbrev pub IsMade : Net → List ℕ → ℕ → ℕ → Type 0
IsMade n order i x = IsTable (node_of n x) → (k : ℕ) × (k < i) × (slice_index order k ≡ x)

-- the literals of all nets that are made have the values of the nets
abbrev pub AreRight : Net → List ℕ → ℕ → List Literal → List Literal → PlainGates → Type 0
AreRight n order i first literals gates =
    (values : ℕ → Bool) (v : List Bool) → IsCycle n first values v → AreMet values gates.list
    → (x : ℕ) → x < net_count n → IsMade n order i x → literal_value values (literal_at literals x) ≡ bit v x

-- only the literals of tables changed
abbrev pub OnlyTables : Net → List Literal → List Literal → Type 0
OnlyTables n first literals = (x : ℕ) → (IsTable (node_of n x) → ⊥) → literal_at literals x ≡ literal_at first x

-- where x is a table its literal has the table's value, and all others are as before
pub record IsMadeAt (n : Net) (x : ℕ) (old new : List Literal) (gates : PlainGates) : Type 0 where
  pub long : length new ≡ length old
  pub others : (y : ℕ) → (y ≡ x → IsTable (node_of n x) → ⊥) → literal_at new y ≡ literal_at old y
  pub own : IsTable (node_of n x) → (values : ℕ → Bool) → values 0 ≡ false → AreMet values gates.list
      → literal_value values (literal_at new x) ≡ table_value (node_of n x) (λ p. literal_value values (literal_at old p))

-- a register's pin
abbrev pub pin_of : Option Node → ℕ
pin_of None = 0
pin_of (Some (Table name cover pins)) = 0
pin_of (Some (Register name init pin)) = pin

-- the latch of register x
abbrev pub latch_at : Net → List Bool → List Literal → ℕ → Latch
latch_at n free literals x = record {
  variable = (literal_at literals x).variable;
  next = literal_at literals (pin_of (node_of n x));
  start = register_start (node_bit (length n.inputs) free x) (node_of n x);
}

-- the latch of net x, where it is a register
abbrev pub latches_at : Net → List Bool → List Literal → ℕ → List Latch
latches_at n free literals x = if is_register_at (node_of n x) then latch_at n free literals x ∷ [] else []

-- the literals of all nets of a design, and the gates that they take
pub record HasLiterals (d : Design) (literals : List Literal) (gates : PlainGates) : Type 0 where
  pub long : length literals ≡ net_count d.net
  pub right : AreRight d.net d.order (length d.net.nodes) (first_literals d.net) literals gates
  pub others : OnlyTables d.net (first_literals d.net) literals
  pub first : gates.first ≡ length d.net.inputs + register_count d.net + 1
  pub few : length gates.list ≤ row_total d.net
  pub count : length gates.list ≡ gate_total d.net
  pub below : AreBelow (next_of gates) literals

-- the graph of a design, whose nets have these literals
pub record IsMadeGraph (n : FreeDesign) (a : PlainAig) : Type 0 where
  pub literals : List Literal
  pub gates : PlainGates
  pub has : HasLiterals n.design literals gates
  pub inputs : a.inputs ≡ map (λ i. i + 1) (range_with_len 0 (length n.design.net.inputs))
  pub latches : a.latches ≡ map (latch_at n.design.net n.free literals) (registers n.design.net)
  pub outputs : a.outputs ≡ map (literal_at literals) n.design.net.outputs
  pub list : a.gates ≡ gates.list
  pub stacked : AreStacked gates.first gates.list
