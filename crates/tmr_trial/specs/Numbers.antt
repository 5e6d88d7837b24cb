-- The numbers that a trial draws: a linear congruence, of whose states the upper bits are taken.
use Rattle.std.specs.Prelude.{ℕ, zero, suc, ◌+◌, ◌*◌, ◌/◌, ◌%◌, ◌^◌}

-- the state behind a state
unfoldable pub next_state : ℕ → ℕ
next_state s = (s * 6364136223846793005 + 1442695040888963407) % 2 ^ 64

-- the state behind so many more
abbrev pub state_after : ℕ → ℕ → ℕ
state_after zero s = s
state_after (suc k) s = next_state (state_after k s)

-- the number below m that a state gives
unfoldable pub drawn : ℕ → ℕ → ℕ
drawn s m = (s / 2 ^ 33) % m

-- draw k behind state s, counted from 0, of a number below m: a draw replaces the state first
abbrev pub draw : ℕ → ℕ → ℕ → ℕ
draw s k m = drawn (next_state (state_after k s)) m
