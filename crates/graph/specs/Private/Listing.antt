-- Rows of readers as far as they are made.
use Rattle.std.specs.Prelude.{◌≡◌, ℕ, ◌<◌, ◌⊎◌, List, length, slice_index}
use Rattle.graph.specs.Rows.{row, Stands, Follows}

-- this place of the row of y stands before place j of the row of k
abbrev pub StandsBefore : ℕ → ℕ → ℕ → ℕ → Type 0
StandsBefore k j y place = (y < k) ⊎ ((y ≡ k) × (place < j))

-- the rows of readers as far as the places before place j of the row of k are noted
pub record ListsTo (rows : List (List ℕ)) (k j : ℕ) (readers : List (List ℕ)) : Type 0 where
  pub long : length readers ≡ length rows
  pub listed : (x y place : ℕ) → x < length rows → place < length (row rows y) → slice_index (row rows y) place ≡ x
      → StandsBefore k j y place → Stands (row readers x) y
  pub only : (x i : ℕ) → i < length (row readers x) → Follows rows x (slice_index (row readers x) i)
