-- What nodes read inside their partitions. Nodes are counted from 0, in their order.
use Rattle.std.specs.Prelude.{◌≡◌, ℕ, ◌+◌, ◌-◌, ◌<◌, ◌==◌, nat_lt, List, length, map, slice_index, if◌then◌else◌}
use Rattle.std.specs.List.{range_with_len}
use Rattle.tmr_base.specs.Parts.{PlainParts}
use Rattle.flat_net.specs.Net.{Net, node_of, pins_at}

-- the pins of node y
abbrev pub node_pins : Net → ℕ → List ℕ
node_pins n y = pins_at (node_of n (length n.inputs + y))

-- pin j of node y reads node x, and both stand in one partition
pub record ReadsInside (n : Net) (parts : PlainParts) (y j x : ℕ) : Type 0 where
  pub pin : j < length (node_pins n y)
  pub is : slice_index (node_pins n y) j ≡ length n.inputs + x
  pub together : slice_index parts.of x ≡ slice_index parts.of y

-- the node that net `pin` is, where it stands in the partition of node y; else the number past all nodes
unfoldable pub inner : Net → PlainParts → ℕ → ℕ → ℕ
inner n parts y pin =
    if nat_lt pin (length n.inputs) then length n.nodes
    else if slice_index parts.of (pin - length n.inputs) == slice_index parts.of y then pin - length n.inputs
    else length n.nodes

-- what the pins of node y read inside its partition
abbrev pub inner_row : Net → PlainParts → ℕ → List ℕ
inner_row n parts y = map (inner n parts y) (node_pins n y)

-- what each node reads inside its partition
abbrev pub inner_rows : Net → PlainParts → List (List ℕ)
inner_rows n parts = map (inner_row n parts) (range_with_len 0 (length n.nodes))
