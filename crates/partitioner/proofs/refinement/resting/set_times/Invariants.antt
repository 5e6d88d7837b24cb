use Rattle.std.proofs.Common.{◌≡◌, ◌<◌, ◌⊎◌, ℕ, List, length, get_or}
use Rattle.partitioner.proofs.refinement.resting.set_times.Given as goal

-- the times of the first j nodes of the row are set
pub record AreSet (before after nodes : List ℕ) (now j : ℕ) : Type 0 where
  pub long : length after ≡ length before
  pub row : (k : ℕ) → k < j → get_or after (get_or nodes k 0) 0 ≡ now
  pub others : (x : ℕ) → (get_or after x 0 ≡ now) ⊎ (get_or after x 0 ≡ get_or before x 0)

abbrev pub invariant-loop-x : goal.invariant-loop-x
invariant-loop-x l = AreSet l.fn.times.items l.times.items l.row l.now l.x-index
