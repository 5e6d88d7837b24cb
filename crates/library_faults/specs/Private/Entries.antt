-- What is kept of models in the places that an order gives them.
use Rattle.std.specs.Prelude.{ℕ, List, Option, None, slice_get, slice_index_or, option_and_then}
use Rattle.library_faults.specs.Graph.{number_named}

-- what is kept of the model of this number, and of that of this name, where there is something
abbrev pub entry_at : {A : Type 0} → List ℕ → List (Option A) → ℕ → Option A
entry_at positions entries x = option_and_then (λ place. slice_index_or entries place None) (slice_get positions x)

abbrev pub entry_named : {A : Type 0} → List (List ℕ) → List ℕ → List (Option A) → List ℕ → Option A
entry_named names positions entries model = option_and_then (entry_at positions entries) (number_named names model)
