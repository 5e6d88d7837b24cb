-- What a walk over models ends with.
use Rattle.std.specs.Prelude.{◌≡◌, ◌≢◌, ℕ, ◌<◌, List, length, slice_index, Contains}
use Rattle.library_faults.specs.declared.survey.order.Found.{Found}
use Rattle.library_faults.specs.declared.survey.order.Found.TheVariants.{Order, Loop}
use Rattle.library_faults.specs.Graph.{row, Reached}
use Rattle.library_faults.specs.Library.{IsLoop}

-- all reached models, each once, each after each that it places
pub record IsOrder (rows : List (List ℕ)) (order : List ℕ) : Type 0 where
  pub within : (k : ℕ) → k < length order → slice_index order k < length rows
  pub reached : (k : ℕ) → k < length order → Reached rows (slice_index order k)
  pub complete : (x : ℕ) → Reached rows x → Contains order x
  pub once : (j k : ℕ) → j < k → k < length order → slice_index order j ≢ slice_index order k
  pub after : (k i : ℕ) → k < length order → i < length (row rows (slice_index order k))
      → (j : ℕ) × (j < k) × (slice_index order j ≡ slice_index (row rows (slice_index order k)) i)

-- an order of the reached models, or a loop
abbrev pub IsFound : List (List ℕ) → Found → Type 0
IsFound rows (Order order) = IsOrder rows order.items
IsFound rows (Loop models) = IsLoop rows models.items
