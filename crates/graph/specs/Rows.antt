-- Lists, and lists of lists with one for each number.
use Rattle.std.specs.Prelude.{◌≡◌, ◌≢◌, ℕ, ◌-◌, ◌<◌, List, [], length, slice_index, slice_index_or}

-- the list of number x; an empty one past the end
abbrev pub row : {A : Type 0} → List (List A) → ℕ → List A
row rows x = slice_index_or rows x []

-- x is the end of the list
pub record IsLast (xs : List ℕ) (x : ℕ) : Type 0 where
  pub some : 0 < length xs
  pub is : slice_index xs (length xs - 1) ≡ x

-- x stands in the list
pub record Stands (xs : List ℕ) (x : ℕ) : Type 0 where
  pub at : ℕ
  pub below : at < length xs
  pub is : slice_index xs at ≡ x

-- no number stands twice
pub record IsOnce (xs : List ℕ) : Type 0 where
  pub apart : (j k : ℕ) → j < k → k < length xs → slice_index xs j ≢ slice_index xs k

-- the row of y names x, one of the numbers that have rows: y reads x
pub record Follows (rows : List (List ℕ)) (x y : ℕ) : Type 0 where
  pub place : ℕ
  pub within : place < length (row rows y)
  pub is : slice_index (row rows y) place ≡ x
  pub vertex : x < length rows
