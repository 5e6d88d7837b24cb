use Rattle.std.proofs.Common.{ℕ, ◌<◌, ◌≤◌, ◌-◌, length, get_or}
use Rattle.clustering.proofs.settling.first_free.Given as goal

abbrev pub invariant-loop-p : goal.invariant-loop-p
invariant-loop-p l = (q : ℕ) → q < l.p → l.room ≤ get_or l.holds q 0

abbrev pub decreases-loop-p : goal.decreases-loop-p
decreases-loop-p l = length l.holds - l.p
