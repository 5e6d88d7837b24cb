use Rattle.std.proofs.Common.{◌≡◌, ℕ}
use Rattle.partitioner.specs.Private.Counting.{count_at}
use Rattle.partitioner.proofs.WideLaws.{counted_below}
use Rattle.partitioner.proofs.counts.tracking.counts_of.Given as goal

abbrev pub invariant-loop-x : goal.invariant-loop-x
invariant-loop-x l = (z q : ℕ) → count_at l.counts z q ≡ counted_below l.n.net l.of l.x z q
