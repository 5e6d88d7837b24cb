-- Rows without what is cut.
use Rattle.std.specs.Prelude.{ℕ, Bool, List, length, map, slice_index, if◌then◌else◌}
use Rattle.std.specs.List.{range_with_len}
use Rattle.graph.specs.Rows.{row}
use Rattle.feedback_cut.specs.Cut.{is_cut}

-- what y reads at a place, or a number past all vertices where that is cut
abbrev pub uncut_entry : List (List ℕ) → List (List Bool) → ℕ → ℕ → ℕ
uncut_entry rows cut y place = if is_cut cut y place then length rows else slice_index (row rows y) place

abbrev pub uncut_row : List (List ℕ) → List (List Bool) → ℕ → List ℕ
uncut_row rows cut y = map (uncut_entry rows cut y) (range_with_len 0 (length (row rows y)))

abbrev pub uncut_rows : List (List ℕ) → List (List Bool) → List (List ℕ)
uncut_rows rows cut = map (uncut_row rows cut) (range_with_len 0 (length rows))
