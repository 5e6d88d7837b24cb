-- The last register before a vertex on a walk with the most registers.
use Rattle.std.specs.Prelude.{◌≡◌, ◌≢◌, ℕ, ◌+◌, ◌<◌, ◌⊎◌, Bool, true, List, length, slice_index, slice_index_or, ◌++◌, if◌then◌else◌}
use Rattle.graph.specs.Rows.{Follows}
use Rattle.graph.specs.Lists.{Leads}
use Rattle.recovery_depth.specs.Walks.{Walk, is_marked}
use Rattle.recovery_depth.specs.Private.Vertices.{one_if, marked}

abbrev pub number_at : List ℕ → ℕ → ℕ
number_at numbers x = slice_index_or numbers x 0

-- the vertex itself, if it is a register, else the last register before it
abbrev pub last_of : List Bool → List ℕ → ℕ → ℕ
last_of bits before x = if is_marked bits x then x else number_at before x

-- register u stands before v on a walk with the most registers
pub record IsBefore (rows : List (List ℕ)) (bits : List Bool) (reaches : List ℕ) (v u : ℕ) : Type 0 where
  pub vertex : u < length rows
  pub register : is_marked bits u ≡ true
  pub reach : number_at reaches u + one_if (is_marked bits v) ≡ number_at reaches v
  pub leads : Leads (Follows rows) u v
  pub joins : (seen : List ℕ) → Walk (Follows rows) (marked bits) u seen → Walk (Follows rows) (marked bits) v (seen ++ marked bits v)

-- wherever there is a register before a vertex, one is known
abbrev pub AreBefore : List (List ℕ) → List Bool → List ℕ → List ℕ → Type 0
AreBefore rows bits reaches before = (v : ℕ) → v < length rows → one_if (is_marked bits v) < number_at reaches v
    → IsBefore rows bits reaches v (number_at before v)

-- `result` is the last register of one of the first i vertices of the row that have this reach, and there is none only where none has
pub record IsChosen (reads reaches : List ℕ) (bits : List Bool) (before : List ℕ) (none target i result : ℕ) : Type 0 where
  pub all : (j : ℕ) → j < i → number_at reaches (slice_index reads j) ≡ target → last_of bits before (slice_index reads j) ≢ none
      → result ≢ none
  pub some : result ≢ none
      → (j : ℕ) × (j < i) × (number_at reaches (slice_index reads j) ≡ target) × (last_of bits before (slice_index reads j) ≡ result)

-- `result` is `best` or `other`, and there is none only where neither is one
pub record IsOneOf (none best other result : ℕ) : Type 0 where
  pub one : (result ≡ best) ⊎ (result ≡ other)
  pub keeps : best ≢ none → result ≢ none
  pub gains : other ≢ none → result ≢ none
