use Rattle.std.proofs.Common.{ℕ, ◌+◌, ◌<◌, ◌≤◌, length, get_or}
use Rattle.flat_net.specs.Net.{node_of, pins_at}
use Rattle.certifying.proofs.labels.most_counted.Given as goal

abbrev pub invariant-loop-j : goal.invariant-loop-j
invariant-loop-j l =
    (f : ℕ → ℕ) (e : ℕ) → ((i : ℕ) → i < length l.labels → get_or l.labels i 0 ≤ f (length l.h.net.inputs + i))
    → ((j : ℕ) → j < length (pins_at (node_of l.h.net l.g.0)) → f (get_or (pins_at (node_of l.h.net l.g.0)) j 0) ≤ e) → l.most ≤ e
