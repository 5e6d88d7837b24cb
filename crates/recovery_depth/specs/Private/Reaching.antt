-- The greatest of some numbers.
use Rattle.std.specs.Prelude.{◌≡◌, ℕ, ◌<◌, ◌≤◌, ◌⊎◌, List, length, slice_index, slice_index_or}

-- the greatest of the numbers that stand at the places that the row names, or 0
pub record IsGreatestOf (row numbers : List ℕ) (greatest : ℕ) : Type 0 where
  pub most : (i : ℕ) → i < length row → slice_index_or numbers (slice_index row i) 0 ≤ greatest
  pub some : (greatest ≡ 0) ⊎ ((i : ℕ) × (i < length row) × (slice_index_or numbers (slice_index row i) 0 ≡ greatest))
