-- Lists of numbers that grow.
use Rattle.std.specs.Prelude.{◌≡◌, ℕ, ◌<◌, ◌≤◌, List, length, slice_index, Contains}

-- the numbers that were there stay at their places, and behind them stand those of the row that were not there
pub record Gains (old row new : List ℕ) : Type 0 where
  pub longer : length old ≤ length new
  pub stays : (k : ℕ) → k < length old → slice_index new k ≡ slice_index old k
  pub has : (x : ℕ) → Contains row x → Contains new x
  pub only : (k : ℕ) → length old ≤ k → k < length new → Contains row (slice_index new k)
