use Rattle.std.proofs.Common.{◌≡◌, ℕ, ◌<◌, true, get_or}
use Rattle.partitioner.specs.Private.Sets.{has}
use Rattle.partitioner.specs.Private.Spotting.{KeepsSpots}
use Rattle.partitioner.proofs.counts.spots.note_spots.Given as goal

abbrev pub invariant-loop-x : goal.invariant-loop-x
invariant-loop-x l = record {
  kept : KeepsSpots l.initial.spots l.spots;
  free : (k : ℕ) → k < l.x-index → has l.spots.free (get_or l.row k 0) l.q ≡ true;
  nets : (k : ℕ) → k < l.x-index → has l.spots.nets l.q (get_or l.row k 0) ≡ true;
}
