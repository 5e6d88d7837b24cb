-- The end of a list, turned so that it begins with its least number.
use Rattle.std.specs.Prelude.{◌≡◌, ℕ, ◌<◌, ◌≤◌, ◌++◌, List, length, drop, slice_index, slice_range}

-- what begins with y at the end of the list, turned so that it begins with its least number
pub record IsTurned (path : List ℕ) (y : ℕ) (turned : List ℕ) : Type 0 where
  pub first : ℕ
  pub least : ℕ
  pub begins : slice_index path first ≡ y
  pub order : first ≤ least
  pub within : least < length path
  pub lowest : (k : ℕ) → first ≤ k → k < length path → slice_index path least ≤ slice_index path k
  pub is : turned ≡ drop least path ++ slice_range path first least
