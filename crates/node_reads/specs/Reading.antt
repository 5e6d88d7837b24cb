-- Which nodes read which. Nodes are counted from 0, in their order.
use Rattle.std.specs.Prelude.{ℕ, ◌+◌, ◌==◌, Bool, List, length, filter}
use Rattle.std.specs.List.{range_with_len, list_any}
use Rattle.flat_net.specs.Net.{Net, node_of, pins_at}

-- node y has a pin that reads node x
unfoldable pub reads : Net → ℕ → ℕ → Bool
reads n y x = list_any (λ pin. pin == length n.inputs + x) (pins_at (node_of n (length n.inputs + y)))

-- the nodes that read node x
abbrev pub readers : Net → ℕ → List ℕ
readers n x = filter (λ y. reads n y x) (range_with_len 0 (length n.nodes))
