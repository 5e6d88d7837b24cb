-- Which nodes stand on loops together. Nodes are counted from 0, in their order.
use Rattle.std.specs.Prelude.{◌≡◌, ◌↔◌, ℕ, ◌<◌, Bool, true, false, List, length, slice_index, slice_index_or}
use Rattle.tmr_base.specs.Parts.{PlainParts}
use Rattle.flat_net.specs.Net.{Net}
use Rattle.feedback_cut.specs.Inner.{ReadsInside}
use Rattle.graph.specs.Lists.{Leads}

-- node y reads node x, of its own partition
pub record ReadsNode (n : Net) (parts : PlainParts) (x y : ℕ) : Type 0 where
  pub pin : ℕ
  pub reads : ReadsInside n parts y pin x

-- lists of nodes of one partition, perhaps of one node, in which each next one reads the one before, lead each way
pub record AreJoined (n : Net) (parts : PlainParts) (x y : ℕ) : Type 0 where
  pub there : Leads (ReadsNode n parts) x y
  pub back : Leads (ReadsNode n parts) y x

-- the component of each node, and for each component whether it has a loop
pub record PlainGroups : Type 0 where
  pub of : List ℕ
  pub loops : List Bool

abbrev pub component_of : PlainGroups → ℕ → ℕ
component_of g x = slice_index g.of x

abbrev pub has_loop : PlainGroups → ℕ → Bool
has_loop g k = slice_index_or g.loops k false

-- a pin of component k reads within it
pub record ReadsWithin (n : Net) (parts : PlainParts) (g : PlainGroups) (k : ℕ) : Type 0 where
  pub read : ℕ
  pub reader : ℕ
  pub reads : ReadsNode n parts read reader
  pub read_in : component_of g read ≡ k
  pub reader_in : component_of g reader ≡ k

-- each node has a component, and each component has a node; two nodes share one exactly where they are joined; and a
-- component has a loop exactly where one of its pins reads within it
pub record AreComponents (n : Net) (parts : PlainParts) (g : PlainGroups) : Type 0 where
  pub nodes : length g.of ≡ length n.nodes
  pub below : (x : ℕ) → x < length n.nodes → component_of g x < length g.loops
  pub used : (k : ℕ) → k < length g.loops → (x : ℕ) × (x < length n.nodes) × (component_of g x ≡ k)
  pub shared : (x y : ℕ) → x < length n.nodes → y < length n.nodes → (component_of g x ≡ component_of g y) ↔ AreJoined n parts x y
  pub loops : (k : ℕ) → k < length g.loops → (has_loop g k ≡ true) ↔ ReadsWithin n parts g k
