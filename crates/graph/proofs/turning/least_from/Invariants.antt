use Rattle.std.proofs.Common.{ℕ, ◌<◌, ◌≤◌, length, get_or}
use Rattle.graph.proofs.turning.least_from.Given as goal

abbrev pub invariant-loop-place : goal.invariant-loop-place
invariant-loop-place l = record {
  order : l.first ≤ l.least;
  within : l.least < length l.path;
  lowest : (k : ℕ) → l.first ≤ k → k < l.place → get_or l.path l.least 0 ≤ get_or l.path k 0;
}
