-- The pair that a plan stands for, as lists: the hardened design, whose nodes are those of the roles in their order, and its certificate.
use Rattle.std.specs.Prelude.{ℕ, ◌-◌, ◌*◌, Bool, not, List, [], ◌++◌, length, map, filter, slice_index, Option, Some, None, if◌then◌else◌, false}
use Rattle.std.specs.List.{flat_map, range_with_len}
use Rattle.tmr_base.specs.declared.copies.CopyNo.{CopyNo}
use Rattle.tmr_base.specs.declared.copies.CopyNo.TheVariants.{First, Second, Third}
use Rattle.tmr_base.specs.Copies.{Three}
use Rattle.tmr_base.specs.Names.{copy_text, voter_text}
use Rattle.tmr_base.specs.Parts.{PlainParts}
use Rattle.flat_net.specs.Net.{Net, Node, Table, Register, node_of, name_of}
use Rattle.certificate.specs.declared.role.Role.{Role}
use Rattle.certificate.specs.declared.role.Role.TheVariants.{Copy, Voter}
use Rattle.certificate.specs.Cert.{PlainCert}
use Rattle.recovery_depth.specs.Depths.{is_some_register}
use Rattle.triplicate.specs.Labels.{Labeling}
use Rattle.triplicate.specs.Blocks.{threefold, block, hardened_roles, hardened_inputs, hardened_clock}
use Rattle.triplicate.specs.Form.{majority_cover, version_of}
use Rattle.triplicate.specs.Numbers.{block_start, copy_net, voter_net}

-- what copy c of node y reads at pin j, where node y reads net x there
abbrev pub pin_net : Net → PlainParts → (ℕ → ℕ → Bool) → ℕ → CopyNo → ℕ → ℕ → ℕ
pin_net n parts voted y c j x =
    if voted y j then voter_net n parts voted x (slice_index parts.of y) c else copy_net n parts voted x c

-- copy c of node y
abbrev pub node_copy : Net → PlainParts → (ℕ → ℕ → Bool) → ℕ → CopyNo → Option Node → Node
node_copy n parts voted y c None = Register [] false 0
node_copy n parts voted y c (Some (Table name cover pins)) =
    Table (copy_text name c) cover (map (λ j. pin_net n parts voted y c j (slice_index pins j)) (range_with_len 0 (length pins)))
node_copy n parts voted y c (Some (Register name init pin)) = Register (copy_text name c) init (pin_net n parts voted y c 0 pin)

-- the node of a role
abbrev pub role_node : Net → PlainParts → (ℕ → ℕ → Bool) → Role → Node
role_node n parts voted (Copy x c) = node_copy n parts voted (x.0 - length n.inputs) c (node_of n x.0)
role_node n parts voted (Voter x p c) = Table (voter_text (name_of n x.0) p.0 c) majority_cover (threefold (copy_net n parts voted x.0))

-- the hardened design: the copies of inputs, a node for each role, the copies of outputs, and the hardened clock
unfoldable pub hardened_net : Net → PlainParts → (ℕ → ℕ → Bool) → Net
hardened_net n parts voted = record {
  model = n.model;
  inputs = hardened_inputs n;
  nodes = map (role_node n parts voted) (hardened_roles n parts voted);
  outputs = flat_map (λ x. threefold (copy_net n parts voted x)) n.outputs;
  clock = hardened_clock n.clock;
}

-- the numbers of the three copies of net x
abbrev pub three_copies : Net → PlainParts → (ℕ → ℕ → Bool) → ℕ → Three
three_copies n parts voted x = record {
  first = copy_net n parts voted x First;
  second = copy_net n parts voted x Second;
  third = copy_net n parts voted x Third;
}

-- the same label for each copy
abbrev pub three_labels : ℕ → Three
three_labels label = record { first = label; second = label; third = label }

-- its certificate: the partitions and depths that are given, for each node its copies and one label for all three, and the roles
unfoldable pub hardened_cert : Net → PlainParts → (ℕ → ℕ → Bool) → Labeling → PlainCert
hardened_cert n parts voted t = record {
  version = version_of t.inputs;
  original_inputs = length n.inputs;
  hardened_inputs = 3 * length n.inputs;
  depth = t.depths;
  part = parts.of;
  copies = map (three_copies n parts voted) (range_with_len (length n.inputs) (length n.nodes));
  labels = map three_labels t.labels;
  roles = hardened_roles n parts voted;
}

-- the numbers of what stands for net x
abbrev pub block_nets : Net → PlainParts → (ℕ → ℕ → Bool) → ℕ → List ℕ
block_nets n parts voted x = range_with_len (block_start n parts voted x) (length (block n parts voted x))

-- net x is a register
abbrev pub is_register_net : Net → ℕ → Bool
is_register_net n x = is_some_register (node_of n x)

-- the inputs, then the registers, then the tables in their order: a table stands behind all that it reads
abbrev pub net_order : Net → List ℕ → List ℕ
net_order n order = range_with_len 0 (length n.inputs) ++ (filter (is_register_net n) order ++ filter (λ x. not (is_register_net n x)) order)

-- what stands for each net, in this order
unfoldable pub hardened_order : Net → PlainParts → (ℕ → ℕ → Bool) → List ℕ → List ℕ
hardened_order n parts voted order = flat_map (block_nets n parts voted) (net_order n order)
