-- Rows that only some numbers have, and where they stand.
use Rattle.std.specs.Prelude.{◌≡◌, ℕ, ◌<◌, List, [], map, length, slice_index, slice_index_or}

-- the row of each number: the one in its place
abbrev pub placed_rows : List ℕ → List (List ℕ) → List (List ℕ)
placed_rows places rows = map (λ p. slice_index_or rows p []) places

-- a number without a row of its own has place 0, where an empty row stands, and no two numbers have another place in common
pub record ArePlaced (places : List ℕ) (rows : List (List ℕ)) : Type 0 where
  pub none : slice_index_or rows 0 [] ≡ []
  pub within : (x : ℕ) → slice_index places x < length rows
  pub apart : (x z : ℕ) → (slice_index places x ≡ 0 → ⊥) → slice_index places x ≡ slice_index places z → x ≡ z
