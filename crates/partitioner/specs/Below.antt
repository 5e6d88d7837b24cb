-- Sums and counts over the numbers below a bound.
use Rattle.std.specs.Prelude.{ℕ, zero, suc, ◌+◌, Bool, cond}

-- the sum of f at the numbers below a bound
unfoldable pub sum_below : ℕ → (ℕ → ℕ) → ℕ
sum_below zero f = 0
sum_below (suc k) f = sum_below k f + f k

-- 1 for true and 0 for false
abbrev pub one_if : Bool → ℕ
one_if b = cond b 1 0

-- how many numbers below a bound pass
unfoldable pub count_below : ℕ → (ℕ → Bool) → ℕ
count_below zero p = 0
count_below (suc k) p = count_below k p + one_if (p k)
