use Rattle.std.proofs.Common.{◌≡◌, ◌<◌, ℕ, length}
use Rattle.partitioner.specs.Private.Gaining.{last_in, spot_at}
use Rattle.partitioner.proofs.costs.gains.forget.Given as goal

abbrev pub invariant-loop-q : goal.invariant-loop-q
invariant-loop-q l = record {
  near : (k : ℕ) → (spot_at l.gains.spots.items k).near ≡ (spot_at l.fn.gains.spots.items k).near;
  long : length l.gains.spots.items ≡ length l.fn.gains.spots.items;
  last : (k : ℕ) → k < l.q → last_in l.gains k ≡ 0;
}
