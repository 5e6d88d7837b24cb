-- What a cut of a design's loops is: one of which each pin is needed, or the one at registers. And an order of what is left.
use Rattle.std.specs.Prelude.{◌≡◌, ◌↔◌, ℕ, ◌<◌, ◌≤◌, Bool, true, false, List, length, slice_index}
use Rattle.tmr_base.specs.Parts.{PlainParts}
use Rattle.flat_net.specs.Net.{Net}
use Rattle.graph.specs.Rows.{row, Stands, IsOnce}
use Rattle.graph.specs.Lists.{Leads}
-- `is_cut cut y j` says that pin j of node y is cut
pub use Rattle.graph.specs.Search.{is_cut}
use Rattle.feedback_cut.specs.Inner.{node_pins, ReadsInside}
use Rattle.feedback_cut.specs.Components.{ReadsNode}
use Rattle.feedback_cut.specs.Registers.{is_register_at}

-- node y reads node x, of its own partition, through a pin that is not voted; `voted y j` says that pin j of node y is
pub record ReadsUnvoted (n : Net) (parts : PlainParts) (voted : ℕ → ℕ → Bool) (x y : ℕ) : Type 0 where
  pub pin : ℕ
  pub reads : ReadsInside n parts y pin x
  pub unvoted : voted y pin ≡ false

-- the same, where the pins that are voted are the cut ones
abbrev pub ReadsUncut : Net → PlainParts → List (List Bool) → ℕ → ℕ → Type 0
ReadsUncut n parts cut = ReadsUnvoted n parts (is_cut cut)

-- a list of nodes leads from x to y, in which each next one reads the one before through an uncut pin inside one partition
abbrev pub LeadsUncut : Net → PlainParts → List (List Bool) → ℕ → ℕ → Type 0
LeadsUncut n parts cut = Leads (ReadsUncut n parts cut)

-- each pin of each node is cut or not; a cut pin reads inside its partition; and no loop of uncut pins is left inside a
-- partition
pub record CutsLoops (n : Net) (parts : PlainParts) (cut : List (List Bool)) : Type 0 where
  pub nodes : length cut ≡ length n.nodes
  pub pins : (y : ℕ) → y < length n.nodes → length (row cut y) ≡ length (node_pins n y)
  pub inside : (y j : ℕ) → is_cut cut y j ≡ true → (x : ℕ) × ReadsInside n parts y j x
  pub open_ended : (x y : ℕ) → LeadsUncut n parts cut x y → ReadsUncut n parts cut y x → ⊥

-- no loop of uncut pins is left, and a cut pin is needed: uncut pins lead from its reader to the node that it reads
pub record CutMeets (n : Net) (parts : PlainParts) (cut : List (List Bool)) : Type 0 where
  pub loops : CutsLoops n parts cut
  pub needed : (y j x : ℕ) → is_cut cut y j ≡ true → ReadsInside n parts y j x → LeadsUncut n parts cut y x

-- pin j of register y stands on a loop: nodes of y's partition, in which each next one reads the one before, lead from y to
-- the node that the pin reads, one of them too
pub record ClosesRegister (n : Net) (parts : PlainParts) (y j : ℕ) : Type 0 where
  pub register : is_register_at n y ≡ true
  pub read : ℕ
  pub reads : ReadsInside n parts y j read
  pub leads : Leads (ReadsNode n parts) y read

-- no loop of uncut pins is left, and a pin is cut exactly where it is that of a register and stands on a loop
pub record CutsRegisters (n : Net) (parts : PlainParts) (cut : List (List Bool)) : Type 0 where
  pub loops : CutsLoops n parts cut
  pub exact : (y j : ℕ) → (is_cut cut y j ≡ true) ↔ ClosesRegister n parts y j

-- all nodes, each once, each after all that it reads through uncut pins inside its partition
pub record OrdersUncut (n : Net) (parts : PlainParts) (cut : List (List Bool)) (order : List ℕ) : Type 0 where
  pub within : (k : ℕ) → k < length order → slice_index order k < length n.nodes
  pub complete : (x : ℕ) → x < length n.nodes → Stands order x
  pub once : IsOnce order
  pub few : length order ≤ length n.nodes
  pub after : (k x : ℕ) → k < length order → ReadsUncut n parts cut x (slice_index order k)
      → (j : ℕ) × (j < k) × (slice_index order j ≡ x)
