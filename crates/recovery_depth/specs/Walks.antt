-- Walks, and the most registers on them.
use Rattle.std.specs.Prelude.{◌≡◌, ℕ, ◌≤◌, Bool, false, List, ◌++◌, length, slice_index_or}

-- a walk that ends in x, and the registers on it, first to last; `Next x y` says that y reads x, and `own x` is x if it is a register, else nothing
pub data Walk (Next : ℕ → ℕ → Type 0) (own : ℕ → List ℕ) : ℕ → List ℕ → Type 0 where
  starts : (x : ℕ) → Walk Next own x (own x)
  goes_on : (x y : ℕ) (seen : List ℕ) → Walk Next own x seen → Next x y → Walk Next own y (seen ++ own y)

-- the most registers of a walk that ends in x
pub record IsReach (Next : ℕ → ℕ → Type 0) (own : ℕ → List ℕ) (x reach : ℕ) : Type 0 where
  pub some : (seen : List ℕ) × (Walk Next own x seen) × (length seen ≡ reach)
  pub most : (seen : List ℕ) → Walk Next own x seen → length seen ≤ reach

-- the bit of x is set
abbrev pub is_marked : List Bool → ℕ → Bool
is_marked bits x = slice_index_or bits x false
