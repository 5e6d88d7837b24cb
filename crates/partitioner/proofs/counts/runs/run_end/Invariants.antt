use Rattle.std.proofs.Common.{◌≡◌, ◌<◌, ◌≤◌, ℕ, get_or}
use Rattle.partitioner.proofs.counts.runs.run_end.Given as goal

abbrev pub invariant-loop-k : goal.invariant-loop-k
invariant-loop-k l = (j : ℕ) → l.first ≤ j → j < l.k → get_or l.of (get_or l.row j 0) 0 ≡ l.q
