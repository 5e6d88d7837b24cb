use Rattle.std.proofs.Common.{◌≡◌, ℕ, ◌<◌, true, [], length, get_or}
use Rattle.partitioner.specs.Private.Marks.{is_marked}
use Rattle.partitioner.proofs.counts.marking.mark_wide.Given as goal

abbrev pub invariant-loop-y : goal.invariant-loop-y
invariant-loop-y l = record {
  long : length l.marks ≡ length l.fn.marks;
  rows : (z : ℕ) → (z ≡ l.x → ⊥) → length (get_or l.marks z []) ≡ length (get_or l.fn.marks z []);
  kept : (z r : ℕ) → (z ≡ l.x → ⊥) → is_marked l.fn.marks z r ≡ true → is_marked l.marks z r ≡ true;
  own : is_marked l.marks l.x (get_or l.of l.x 0) ≡ true;
  row : (k : ℕ) → k < l.y-index → is_marked l.marks l.x (get_or l.of (get_or l.row k 0) 0) ≡ true;
}
