-- The first fault of a library.
use Rattle.std.specs.Prelude.{◌≡◌, ◌≢◌, ℕ, suc, ◌-◌, ◌<◌, ◌≤◌, List, map, length, [], Option, Some, None, slice_get, slice_index, slice_index_or}
use Rattle.blif_text.specs.Models.{PlainModel}
use Rattle.library_faults.specs.declared.fault.PlacingFault.{PlacingFault}
use Rattle.library_faults.specs.Graph.{graph, names_of, Places, Reached}
use Rattle.library_faults.specs.Faults.{model_fault}

-- no statement of the reached models before this one has a fault
abbrev pub AreFaultless : List PlainModel → ℕ → Type 0
AreFaultless library place = (k : ℕ) (m : PlainModel) → k < place → slice_get library k ≡ Some m
    → Reached (graph library) k → model_fault library m ≡ None

-- the first fault of the statements of the reached models, which are taken in the order of the file
pub record IsFirstFault (library : List PlainModel) (fault : PlacingFault) : Type 0 where
  pub place : ℕ
  pub model : PlainModel
  pub is : slice_get library place ≡ Some model
  pub reached : Reached (graph library) place
  pub has : model_fault library model ≡ Some fault
  pub earlier : AreFaultless library place

-- reached models of which each places the next and the last places the first, none twice, beginning with the one that is first in the file
pub record IsLoop (rows : List (List ℕ)) (models : List ℕ) : Type 0 where
  pub some : 0 < length models
  pub reached : (k : ℕ) → k < length models → Reached rows (slice_index models k)
  pub next : (k : ℕ) → suc k < length models → Places rows (slice_index models k) (slice_index models (suc k))
  pub closed : Places rows (slice_index models (length models - 1)) (slice_index models 0)
  pub once : (j k : ℕ) → j < k → k < length models → slice_index models j ≢ slice_index models k
  pub least : (k : ℕ) → k < length models → slice_index models 0 ≤ slice_index models k

-- no statement of a reached model has a fault
abbrev pub IsPlaceable : List PlainModel → Type 0
IsPlaceable library = AreFaultless library (length library)

-- the first fault of the statements, where there is one
abbrev pub IsStatementFault : List PlainModel → Option PlacingFault → Type 0
IsStatementFault library None = IsPlaceable library
IsStatementFault library (Some fault) = IsFirstFault library fault

-- the names with these numbers
unfoldable pub picked : List (List ℕ) → List ℕ → List (List ℕ)
picked names models = map (λ x. slice_index_or names x []) models

-- models that place each other in a loop, given that no statement has a fault
abbrev pub IsRecursive : List PlainModel → List (List ℕ) → Type 0
IsRecursive library names = IsPlaceable library × ((models : List ℕ) × IsLoop (graph library) models × (names ≡ picked (names_of library) models))
