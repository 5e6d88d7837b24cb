use Rattle.std.proofs.Common.{◌≡◌, ℕ, ◌≤◌, ◌-◌, ◌==◌, length, take, slice_index, if◌then◌else◌}
use Rattle.std.specs.List.{count_by}
use Rattle.partitioner.specs.Private.Counting.{count_at}
use Rattle.partitioner.proofs.counts.tracking.count_row.Given as goal

abbrev pub invariant-loop-first : goal.invariant-loop-first
invariant-loop-first l = record {
  within : l.first ≤ length l.row;
  counted : (z q : ℕ) → count_at l.counts z q ≡ (if l.x == z then count_by (λ y. slice_index l.of y == q) (take l.first l.row) else count_at l.initial.counts z q);
}

abbrev pub decreases-loop-first : goal.decreases-loop-first
decreases-loop-first l = length l.row - l.first
