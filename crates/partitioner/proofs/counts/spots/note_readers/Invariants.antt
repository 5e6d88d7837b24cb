use Rattle.std.proofs.Common.{◌≡◌, ℕ, ◌<◌, ◌≤◌, ◌-◌, true, length, get_or, slice_index}
use Rattle.partitioner.specs.Private.Sets.{has}
use Rattle.partitioner.specs.Private.Spotting.{KeepsSpots}
use Rattle.partitioner.proofs.counts.spots.note_readers.Given as goal

abbrev pub invariant-loop-first : goal.invariant-loop-first
invariant-loop-first l = record {
  within : l.first ≤ length l.row;
  kept : KeepsSpots l.initial.spots l.spots;
  free : (k : ℕ) → k < l.first → has l.spots.free l.x (slice_index l.p.of.items (get_or l.row k 0)) ≡ true;
  nets : (k : ℕ) → k < l.first → has l.spots.nets (slice_index l.p.of.items (get_or l.row k 0)) l.x ≡ true;
}

abbrev pub decreases-loop-first : goal.decreases-loop-first
decreases-loop-first l = length l.row - l.first
