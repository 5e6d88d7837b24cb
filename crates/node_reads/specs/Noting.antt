-- Rows that list, for each number, which earlier numbers stand in a relation to it.
use Rattle.std.specs.Prelude.{◌≡◌, ℕ, ◌-◌, ◌<◌, ◌==◌, Bool, false, List, [], ◌∷◌, ◌++◌, length, filter, Option, Some, None, slice_get, slice_index_or, slice_set, if◌then◌else◌}
use Rattle.std.specs.List.{range_with_len}

-- there is a number, and it is k
abbrev pub is_number : Option ℕ → ℕ → Bool
is_number None k = false
is_number (Some z) k = z == k

-- the last number of a row is k
abbrev pub ends_in : List ℕ → ℕ → Bool
ends_in row k = is_number (slice_get row (length row - 1)) k

-- k was put behind row x, unless it stood last there already
abbrev pub noted : List (List ℕ) → ℕ → ℕ → List (List ℕ)
noted rows x k = if ends_in (slice_index_or rows x []) k then rows else slice_set rows x (slice_index_or rows x [] ++ k ∷ [])

-- the numbers below k that stand in relation r to x
abbrev pub related : (ℕ → ℕ → Bool) → ℕ → ℕ → List ℕ
related r k x = filter (λ z. r z x) (range_with_len 0 k)

-- row x lists the numbers below k that stand in relation r to x
pub record Lists (r : ℕ → ℕ → Bool) (k count : ℕ) (rows : List (List ℕ)) : Type 0 where
  pub long : length rows ≡ count
  pub row : (x : ℕ) → x < count → slice_index_or rows x [] ≡ related r k x
