-- What tables read, as rows of numbers. Nodes are counted from the first one. For the search for an order alone.
use Rattle.std.specs.Prelude.{ℕ, ◌+◌, ◌-◌, nat_lt, List, length, map, if◌then◌else◌}
use Rattle.std.specs.List.{range_with_len}
use Rattle.flat_net.specs.Net.{Net, node_of, table_pins}

-- the node that net x is; an input is a number past all nodes
unfoldable pub read_of : ℕ → ℕ → ℕ → ℕ
read_of inputs past x = if nat_lt x inputs then past else x - inputs

-- what node y reads, where it is a table
abbrev pub table_row : Net → ℕ → List ℕ
table_row n y = map (read_of (length n.inputs) (length n.nodes)) (table_pins (node_of n (length n.inputs + y)))

abbrev pub table_rows : Net → List (List ℕ)
table_rows n = map (table_row n) (range_with_len 0 (length n.nodes))
