-- Only private functions cite this: a part of the hardened design, as names, nodes and roles.
use Rattle.std.specs.Prelude.{◌≡◌, ℕ, ◌+◌, ◌<◌, false, List, [], ◌∷◌, ◌++◌, map, slice_index, Option, Some, None}
use Rattle.tmr_base.specs.declared.copies.CopyNo.{CopyNo}
use Rattle.tmr_base.specs.Copies.{copy_number}
use Rattle.tmr_base.specs.Names.{copy_text}
use Rattle.flat_net.specs.Net.{Node, Table, Register, node_name, net_count}
use Rattle.flat_net.specs.Packs.{Packs}
use Rattle.flat_net.specs.declared.nodes.PackedNodes.{PackedNodes}
use Rattle.certificate.specs.declared.role.Role.{Role}
use Rattle.triplicate.specs.Blocks.{hardened_inputs, role_name}
use Rattle.triplicate.specs.Construction.{role_node}
use Rattle.triplicate.specs.Form.{majority_cover}
use Rattle.hardened_pair.specs.declared.layout.Layout.{Layout}
use Rattle.hardened_pair.specs.declared.tripling.Made.{Made}
use Rattle.hardened_pair.specs.declared.tripling.VotedNet.{VotedNet}
use Rattle.hardened_pair.specs.Private.Layouts.{net_of, partitions, voted, roles_of, first_copy_of}

-- the names and nodes are those of the roles; the last names wait outside the set
pub record IsMade (l : Layout) (made : Made) : Type 0 where
  pub named : made.names.keys ++ made.waiting.items ≡ hardened_inputs (net_of l) ++ map (role_name (net_of l)) made.roles.items
  pub packed : Packs (map (role_name (net_of l)) made.roles.items) made.nodes (map (role_node (net_of l) (partitions l) (voted l)) made.roles.items)

-- behind the roles that are done come these
pub record IsNext (l : Layout) (done next : List Role) : Type 0 where
  pub rest : List Role
  pub split : roles_of l ≡ done ++ (next ++ rest)

-- a net of the design, its first copy, and the majority of three
pub record IsVotedNet (l : Layout) (v : VotedNet) : Type 0 where
  pub range : v.net.0 < net_count (net_of l)
  pub copy : v.copy ≡ first_copy_of l v.net.0
  pub few : v.copy + 3 < 4294967296
  pub cover : v.majority.now ≡ majority_cover

-- copy c of a node, of which the first copy reads these nets
abbrev pub shifted_node : CopyNo → List ℕ → Option Node → Node
shifted_node c ps None = Register [] false 0
shifted_node c ps (Some (Table name cover pins)) = Table (copy_text name c) cover (map (λ p. p + copy_number c) ps)
shifted_node c ps (Some (Register name init pin)) = Register (copy_text name c) init (slice_index ps 0 + copy_number c)

-- behind the nodes that are packed comes this one
abbrev pub PushesNode : PackedNodes → PackedNodes → Node → Type 0
PushesNode old new node =
    (names : List (List ℕ)) (done : List Node) → Packs names old done → Packs (names ++ node_name node ∷ []) new (done ++ node ∷ [])
