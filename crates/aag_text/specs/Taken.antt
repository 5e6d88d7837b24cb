-- How many gates a design takes.
use Rattle.std.specs.Prelude.{ℕ, ◌+◌, ◌-◌, ◌==◌, Bool, ◌||◌, List, length, count_by, sum_by}
use Rattle.table_cover.specs.Cover.{PlainCover}
use Rattle.flat_net.specs.Net.{Net, Node, Table, Register}

-- the mark is `0` or `1`, and no dash
abbrev pub is_given : ℕ → Bool
is_given mark = mark == 48 || mark == 49

-- a row takes a gate for each `0` or `1` but the first, and none for a dash
abbrev pub row_gates : List ℕ → ℕ
row_gates row = count_by is_given row - 1

-- a cover takes the gates of its rows, and one for each row but the first
abbrev pub cover_gates : PlainCover → ℕ
cover_gates cover = sum_by row_gates cover.rows + (length cover.rows - 1)

-- a table takes the gates of its cover, and a register none
abbrev pub node_gates : Node → ℕ
node_gates (Table name cover pins) = cover_gates cover
node_gates (Register name init pin) = 0

-- the gates of all nodes together
abbrev pub gate_total : Net → ℕ
gate_total n = sum_by node_gates n.nodes
