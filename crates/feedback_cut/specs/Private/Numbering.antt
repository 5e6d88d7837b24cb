-- One number for the vertices that lead to each other.
use Rattle.std.specs.Prelude.{◌≡◌, ℕ, ◌<◌, ◌≤◌, List, length, slice_index}
use Rattle.graph.specs.Rows.{Follows}
use Rattle.graph.specs.Lists.{Leads}

-- each vertex has a number below `groups`, and each of these is used; vertices of one number lead to each other; and what
-- reads a vertex has no lower number than that one
pub record IsNumbered (rows : List (List ℕ)) (numbers : List ℕ) (groups : ℕ) : Type 0 where
  pub long : length numbers ≡ length rows
  pub few : groups ≤ length rows
  pub below : (x : ℕ) → x < length rows → slice_index numbers x < groups
  pub used : (k : ℕ) → k < groups → (x : ℕ) × (x < length rows) × (slice_index numbers x ≡ k)
  pub joined : (x y : ℕ) → x < length rows → y < length rows → slice_index numbers x ≡ slice_index numbers y → Leads (Follows rows) x y
  pub rising : (x y : ℕ) → x < length rows → y < length rows → Follows rows x y → slice_index numbers x ≤ slice_index numbers y
