use Rattle.std.proofs.Common.{◌≡◌, ℕ, ◌<◌, true, [], length, get_or}
use Rattle.partitioner.specs.Private.Marks.{is_marked}
use Rattle.partitioner.proofs.counts.marking.mark_row.Given as goal

abbrev pub invariant-loop-x : goal.invariant-loop-x
invariant-loop-x l = record {
  long : length l.marks ≡ length l.initial.marks;
  rows : (z : ℕ) → length (get_or l.marks z []) ≡ length (get_or l.initial.marks z []);
  kept : (z r : ℕ) → is_marked l.initial.marks z r ≡ true → is_marked l.marks z r ≡ true;
  row : (k : ℕ) → k < l.x-index → is_marked l.marks (get_or l.row k 0) l.q ≡ true;
}
