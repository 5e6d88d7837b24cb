use Rattle.std.proofs.Common.{◌≡◌, ℕ, ◌<◌, ◌≤◌, ◌-◌, length, get_or}
use Rattle.graph.proofs.turning.place_of.Given as goal

abbrev pub invariant-loop-place : goal.invariant-loop-place
invariant-loop-place l = (k : ℕ) × (k < length l.path) × (l.place ≤ k) × (get_or l.path k 0 ≡ l.y)

abbrev pub decreases-loop-place : goal.decreases-loop-place
decreases-loop-place l = length l.path - l.place
