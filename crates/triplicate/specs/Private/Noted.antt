-- Only private functions cite this: how the partitions that need voters are noted: partition by partition, node by node, pin by pin.
use Rattle.std.specs.Prelude.{ℕ, zero, suc, ◌==◌, Bool, List, [], ◌∷◌, length, filter, slice_index, if◌then◌else◌}
use Rattle.std.specs.List.{range_with_len}
use Rattle.tmr_base.specs.Parts.{PlainParts}
use Rattle.flat_net.specs.Net.{Net, net_count}
use Rattle.feedback_cut.specs.Inner.{node_pins}
use Rattle.node_reads.specs.Noting.{noted}
use Rattle.node_reads.specs.Private.Marking.{ListsMarked}
use Rattle.triplicate.specs.Starts.{needs}

-- node y stands in partition p
abbrev pub is_in : PlainParts → ℕ → ℕ → Bool
is_in parts y p = slice_index parts.of y == p

-- pin j of node y
unfoldable pub pin_noted : Net → PlainParts → (ℕ → ℕ → Bool) → ℕ → ℕ → List (List ℕ) → List (List ℕ)
pin_noted n parts voted y j rows = if voted y j then noted rows (slice_index (node_pins n y) j) (slice_index parts.of y) else rows

-- the first j pins of node y
unfoldable pub pins_noted : Net → PlainParts → (ℕ → ℕ → Bool) → ℕ → ℕ → List (List ℕ) → List (List ℕ)
pins_noted n parts voted y zero rows = rows
pins_noted n parts voted y (suc j) rows = pin_noted n parts voted y j (pins_noted n parts voted y j rows)

-- all pins of these nodes
unfoldable pub nodes_noted : Net → PlainParts → (ℕ → ℕ → Bool) → List ℕ → List (List ℕ) → List (List ℕ)
nodes_noted n parts voted [] rows = rows
nodes_noted n parts voted (y ∷ ys) rows = nodes_noted n parts voted ys (pins_noted n parts voted y (length (node_pins n y)) rows)

-- the nodes of partition p
abbrev pub members : Net → PlainParts → ℕ → List ℕ
members n parts p = filter (λ y. is_in parts y p) (range_with_len 0 (length n.nodes))

-- all pins of the nodes of the first k partitions
unfoldable pub parts_noted : Net → PlainParts → (ℕ → ℕ → Bool) → ℕ → List (List ℕ) → List (List ℕ)
parts_noted n parts voted zero rows = rows
parts_noted n parts voted (suc p) rows = nodes_noted n parts voted (members n parts p) (parts_noted n parts voted p rows)

-- partition p is being noted: each row has the partitions below p that need a voter of its net, and the marked ones have p too
pub record IsNoting (n : Net) (parts : PlainParts) (voted : ℕ → ℕ → Bool) (p : ℕ) (rows : List (List ℕ)) : Type 0 where
  pub marked : ℕ → Bool
  pub lists : ListsMarked (needs n parts voted) p (net_count n) marked rows
