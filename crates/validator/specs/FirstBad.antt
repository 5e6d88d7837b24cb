-- The first number that fails. Private functions alone cite it.
use Rattle.std.specs.Prelude.{ℕ, ◌<◌, Option, Some, None}

-- the first number of which P does not hold; None where it holds of all
abbrev pub IsFirstBad : (ℕ → Type 0) → Option ℕ → Type 0
IsFirstBad P None = (i : ℕ) → P i
IsFirstBad P (Some i) = (P i → ⊥) × ((j : ℕ) → j < i → P j)
