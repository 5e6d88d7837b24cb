-- One more row of a cover, and why one is refused.
use Rattle.std.specs.Prelude.{ℕ, ◌==◌, Bool, true, false, not, ◌&&◌, ◌||◌, List, [], ◌∷◌, ◌++◌, length, Option, Some, None, if◌then◌else◌}
use Rattle.std.specs.List.{list_all}
use Rattle.table_cover.specs.declared.cover.RowFault.{RowFault}
use Rattle.table_cover.specs.declared.cover.RowFault.TheVariants.{Width, BadChar, Mixed}
use Rattle.table_cover.specs.Cover.{PlainCover, is_mark}

-- the output character `1` gives polarity on, and `0` off
abbrev pub is_output : ℕ → Bool
is_output b = b == 48 || b == 49

abbrev pub bool_same : Bool → Bool → Bool
bool_same true b = b
bool_same false b = not b

-- a row with the other output is there
abbrev pub is_mixed : PlainCover → ℕ → Bool
is_mixed k output = not (length k.rows == 0) && not (bool_same k.is_on (output == 49))

-- the first reason to refuse the row
abbrev pub row_fault : PlainCover → List ℕ → ℕ → Option RowFault
row_fault k row output =
    if not (length row == k.width) then Some Width
    else if not (list_all is_mark row && is_output output) then Some BadChar
    else if is_mixed k output then Some Mixed
    else None

abbrev pub with_row : PlainCover → List ℕ → ℕ → PlainCover
with_row k row output = record { width = k.width; is_on = output == 49; rows = k.rows ++ row ∷ [] }
