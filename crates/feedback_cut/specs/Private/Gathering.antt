-- Vertices that lead to a root through vertices without a number.
use Rattle.std.specs.Prelude.{◌≡◌, ◌≢◌, ℕ, List, length, slice_index_or}
use Rattle.graph.specs.Rows.{row, Stands}

-- the number of x, or none
abbrev pub number_at : ℕ → List ℕ → ℕ → ℕ
number_at none numbers x = slice_index_or numbers x none

-- the root is reached, and so is each reader of what is reached that has no number
pub data Reached (readers : List (List ℕ)) (none : ℕ) (numbers : List ℕ) (root : ℕ) : ℕ → Type 0 where
  the_root : Reached readers none numbers root root
  reader : (x y : ℕ) → Reached readers none numbers root x → Stands (row readers x) y → number_at none numbers y ≡ none
      → Reached readers none numbers root y

-- what had a number keeps it; the root has a number; what is new is reached and has the group's number, and all its readers have numbers
pub record IsGathered (readers : List (List ℕ)) (none group root : ℕ) (old new : List ℕ) : Type 0 where
  pub long : length new ≡ length old
  pub kept : (x : ℕ) → number_at none old x ≢ none → number_at none new x ≡ number_at none old x
  pub rooted : number_at none new root ≢ none
  pub gained : (x : ℕ) → number_at none old x ≡ none → number_at none new x ≢ none
      → (number_at none new x ≡ group) × Reached readers none old root x
  pub closed : (x y : ℕ) → number_at none old x ≡ none → number_at none new x ≢ none → Stands (row readers x) y → number_at none new y ≢ none
