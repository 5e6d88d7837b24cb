-- Numbers that are drawn.
use Rattle.std.proofs.Common.{◌≡◌, ℕ, ◌/◌, ◌^◌, ◌<◌, refl, arith}
use Rattle.tmr_trial.specs.Numbers.{next_state, drawn}

-- the first new state behind 0
pub first_of_zero : next_state 0 / 2 ^ 33 ≡ 167951807
unfolding next_state
first_of_zero = refl

pub drawn_below : (s m : ℕ) → 0 < m → drawn s m < m
unfolding drawn
drawn_below s m h = omega arith
