-- Walks over the vertices of a graph, of which bits mark the registers.
use Rattle.std.specs.Prelude.{◌≡◌, ℕ, ◌<◌, ◌≤◌, Bool, List, [], ◌∷◌, length, slice_index, cond}
use Rattle.graph.specs.Rows.{Stands, IsOnce, Follows}
use Rattle.graph.specs.Lists.{Leads}
use Rattle.recovery_depth.specs.Walks.{IsReach, is_marked}

abbrev pub one_if : Bool → ℕ
one_if b = cond b 1 0

-- x alone, if its bit is set
abbrev pub marked : List Bool → ℕ → List ℕ
marked bits x = cond (is_marked bits x) (x ∷ []) []

-- no reads make a loop
abbrev pub HasNoLoop : List (List ℕ) → Type 0
HasNoLoop rows = (x y : ℕ) → Leads (Follows rows) x y → Follows rows y x → ⊥

-- all vertices, each once, each after all that it reads
pub record IsOrdered (rows : List (List ℕ)) (order : List ℕ) : Type 0 where
  pub within : (k : ℕ) → k < length order → slice_index order k < length rows
  pub complete : (x : ℕ) → x < length rows → Stands order x
  pub once : IsOnce order
  pub few : length order ≤ length rows
  pub after : (k x : ℕ) → k < length order → Follows rows x (slice_index order k) → (j : ℕ) × (j < k) × (slice_index order j ≡ x)

-- the most registers of a walk that ends in vertex x
abbrev pub IsReachIn : List (List ℕ) → List Bool → ℕ → ℕ → Type 0
IsReachIn rows bits = IsReach (Follows rows) (marked bits)
