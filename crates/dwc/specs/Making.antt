-- Only private functions cite this: a part of the guarded design as it is made, and the order of its nodes.
use Rattle.std.specs.Prelude.{◌≡◌, ℕ, ◌+◌, ◌*◌, List, [], ◌∷◌, ◌++◌, length, map, take}
use Rattle.std.specs.List.{flat_map, range_with_len}
use Rattle.flat_net.specs.declared.nodes.PackedNodes.{PackedNodes}
use Rattle.flat_net.specs.Packs.{Packs}
use Rattle.flat_net.specs.Net.{Net, Node, node_name, net_names, net_count}
use Rattle.dwc.specs.declared.made.Made.{Made}
use Rattle.dwc.specs.Guard.{twin, twofold}

-- behind the nodes that are packed stands this one too
abbrev pub PacksMore : PackedNodes → PackedNodes → Node → Type 0
PacksMore old new node =
    (names : List (List ℕ)) (done : List Node) → Packs names old done → Packs (names ++ node_name node ∷ []) new (done ++ node ∷ [])

-- the names of the inputs and of the first nodes, and those nodes
pub record IsMade (g : Net) (count : ℕ) (made : Made) : Type 0 where
  pub named : made.names.keys ≡ take (length g.inputs + count) (net_names g)
  pub packed : Packs (map node_name (take count g.nodes)) made.nodes (take count g.nodes)

-- the copies in the order of their nodes, then the comparators, then the alarm
abbrev pub guard_order : Net → List ℕ → List ℕ
guard_order n order = flat_map (λ x. twofold (λ c. twin c x)) order ++ range_with_len (2 * net_count n) (length n.outputs + 1)
