-- Groups with a loop.
use Rattle.std.specs.Prelude.{◌≡◌, ℕ, ◌<◌, Bool, true, false, List, length, slice_index, slice_index_or}
use Rattle.graph.specs.Rows.{Follows}

-- y reads a vertex of its own number
pub record ReadsOwn (rows : List (List ℕ)) (numbers : List ℕ) (y : ℕ) : Type 0 where
  pub read : ℕ
  pub follows : Follows rows read y
  pub same : slice_index numbers read ≡ slice_index numbers y

-- a group has a loop exactly where one of the first k vertices, of its number, reads one of that number
pub record AreLooped (rows : List (List ℕ)) (numbers : List ℕ) (groups k : ℕ) (loops : List Bool) : Type 0 where
  pub long : length loops ≡ groups
  pub only : (g : ℕ) → slice_index_or loops g false ≡ true → (y : ℕ) × (y < k) × (slice_index numbers y ≡ g) × ReadsOwn rows numbers y
  pub all : (y : ℕ) → y < k → ReadsOwn rows numbers y → slice_index_or loops (slice_index numbers y) false ≡ true
