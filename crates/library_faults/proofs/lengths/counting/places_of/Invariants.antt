use Rattle.std.proofs.Common.{◌≡◌, ◌<◌, ℕ, length, Some}
use Rattle.std.specs.Prelude.{slice_get, slice_index}
use Rattle.library_faults.proofs.lengths.counting.places_of.Given as goal

abbrev pub invariant-loop-place : goal.invariant-loop-place
invariant-loop-place l = record {
  long : length l.positions.items ≡ l.count;
  placed : (k : ℕ) → k < l.place → slice_get l.positions.items (slice_index l.order k) ≡ Some k;
}
