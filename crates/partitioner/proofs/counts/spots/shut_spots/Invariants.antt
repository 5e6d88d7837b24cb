use Rattle.std.proofs.Common.{◌≡◌, ℕ, true, length}
use Rattle.partitioner.specs.Private.Sets.{has}
use Rattle.partitioner.proofs.counts.spots.shut_spots.Given as goal

abbrev pub invariant-loop-x : goal.invariant-loop-x
invariant-loop-x l = record {
  long : length l.free ≡ length l.initial.free;
  kept : (z r : ℕ) → (l.q ≡ r → ⊥) → has l.initial.free z r ≡ true → has l.free z r ≡ true;
}
