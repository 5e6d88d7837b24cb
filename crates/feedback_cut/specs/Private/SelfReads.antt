-- What nodes read, where each register that reads its own component reads itself in its place.
use Rattle.std.specs.Prelude.{ℕ, nat_lt, ◌==◌, ◌&&◌, List, length, map, slice_index, if◌then◌else◌}
use Rattle.std.specs.List.{range_with_len}
use Rattle.flat_net.specs.Net.{Net}
use Rattle.graph.specs.Rows.{row}
use Rattle.feedback_cut.specs.Registers.{is_register_at}

-- x, or y itself where it is a register and x a node of its own component; `of` has the component of each node
unfoldable pub self_read : Net → List ℕ → ℕ → ℕ → ℕ
self_read n of y x = if nat_lt x (length of) && (is_register_at n y && slice_index of x == slice_index of y) then y else x

abbrev pub self_row : Net → List ℕ → List (List ℕ) → ℕ → List ℕ
self_row n of rows y = map (self_read n of y) (row rows y)

abbrev pub self_rows : Net → List ℕ → List (List ℕ) → List (List ℕ)
self_rows n of rows = map (self_row n of rows) (range_with_len 0 (length rows))
