-- What a move changes in the counts.
use Rattle.std.specs.Prelude.{◌≡◌, ℕ, ◌+◌, ◌==◌, Bool, ◌&&◌}
use Rattle.partitioner.specs.Below.{one_if}

-- for each node that is marked, one reader goes from partition a to partition b
abbrev pub Shifts : (ℕ → ℕ → ℕ) → (ℕ → ℕ → ℕ) → (ℕ → Bool) → ℕ → ℕ → Type 0
Shifts old new marked a b = (z q : ℕ) → new z q + one_if (marked z && (a == q)) ≡ old z q + one_if (marked z && (b == q))
