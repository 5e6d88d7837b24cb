use Rattle.std.proofs.Common.{◌≡◌, ℕ, ◌<◌, ◌⊎◌, true, length}
use Rattle.std.specs.List.{list_any}
use Rattle.std.specs.Ordering.{is_eq, nat_cmp}
use Rattle.partitioner.specs.Private.Sets.{has}
use Rattle.partitioner.proofs.counts.spots.open_spots.Given as goal

abbrev pub invariant-loop-x : goal.invariant-loop-x
invariant-loop-x l = record {
  long : length l.free ≡ length l.initial.free;
  kept : (z r : ℕ) → has l.initial.free z r ≡ true → has l.free z r ≡ true;
  opened : (z : ℕ) → z < l.nodes → has l.nets l.q z ≡ true → (has l.free z l.q ≡ true) ⊎ (list_any (λ c. is_eq (nat_cmp z c)) l.x-iterator ≡ true);
}
