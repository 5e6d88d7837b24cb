-- Which nodes are registers. Nodes are counted from 0, in their order.
use Rattle.std.specs.Prelude.{ℕ, ◌+◌, Bool, false, length, Option, Some, None}
use Rattle.flat_net.specs.Net.{Net, Node, node_of, is_register}

abbrev pub is_some_register : Option Node → Bool
is_some_register None = false
is_some_register (Some node) = is_register node

-- node x is a register
abbrev pub is_register_at : Net → ℕ → Bool
is_register_at n x = is_some_register (node_of n (length n.inputs + x))
