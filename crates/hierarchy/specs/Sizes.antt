-- How much the covers of a design hold.
use Rattle.std.specs.Prelude.{ℕ, ◌+◌, ◌*◌, length, sum_by}
use Rattle.flat_net.specs.Net.{Net, Node, Table, Register}

-- the rows of a table's cover, each of the cover's width plus 1
abbrev pub row_places : Node → ℕ
row_places (Table name cover pins) = length cover.rows * (cover.width + 1)
row_places (Register name init pin) = 0

-- the sum, over all rows of all covers, of the width plus 1
abbrev pub row_total : Net → ℕ
row_total n = sum_by row_places n.nodes
