-- Labels of nodes and depths of partitions. Nodes are counted from 0, in their order.
use Rattle.std.specs.Prelude.{◌≡◌, ℕ, ◌<◌, ◌≤◌, ◌⊎◌, Bool, List, [], ◌∷◌, length, slice_index, cond}
use Rattle.tmr_base.specs.Parts.{PlainParts}
use Rattle.flat_net.specs.Net.{Net}
use Rattle.feedback_cut.specs.Cut.{ReadsUnvoted}
-- `is_register_at n x` says that node x is a register
pub use Rattle.feedback_cut.specs.Registers.{is_some_register, is_register_at}
use Rattle.recovery_depth.specs.Walks.{IsReach}

-- node x, if it is a register, else nothing
abbrev pub own_register : Net → ℕ → List ℕ
own_register n x = cond (is_register_at n x) (x ∷ []) []

-- the label of each node, and the depth of each partition
pub record PlainDepths : Type 0 where
  pub labels : List ℕ
  pub depths : List ℕ

-- the greatest label of the first k nodes, those of partition p, or 0
pub record IsDepth (parts : PlainParts) (labels : List ℕ) (k p depth : ℕ) : Type 0 where
  pub most : (x : ℕ) → x < k → slice_index parts.of x ≡ p → slice_index labels x ≤ depth
  pub some : (depth ≡ 0) ⊎ ((x : ℕ) × (x < k) × (slice_index parts.of x ≡ p) × (slice_index labels x ≡ depth))

-- a node's label is the most registers of a walk that ends in it, in which each node reads the one before through a pin
-- inside one partition that is not voted, and a partition's depth is the greatest label of its nodes, or 0;
-- `voted y j` says that pin j of node y is voted
pub record AreDepths (n : Net) (parts : PlainParts) (voted : ℕ → ℕ → Bool) (t : PlainDepths) : Type 0 where
  pub nodes : length t.labels ≡ length n.nodes
  pub parts_long : length t.depths ≡ parts.count
  pub labels : (x : ℕ) → x < length n.nodes → IsReach (ReadsUnvoted n parts voted) (own_register n) x (slice_index t.labels x)
  pub depths : (p : ℕ) → p < parts.count → IsDepth parts t.labels (length n.nodes) p (slice_index t.depths p)
