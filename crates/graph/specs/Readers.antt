-- Rows of readers.
use Rattle.std.specs.Prelude.{◌≡◌, ℕ, ◌<◌, List, length, slice_index}
use Rattle.graph.specs.Rows.{row, Stands, Follows}

-- row x of the readers names the vertices that read x, and no others
pub record AreReaders (rows readers : List (List ℕ)) : Type 0 where
  pub long : length readers ≡ length rows
  pub listed : (x y : ℕ) → Follows rows x y → Stands (row readers x) y
  pub only : (x i : ℕ) → i < length (row readers x) → Follows rows x (slice_index (row readers x) i)
