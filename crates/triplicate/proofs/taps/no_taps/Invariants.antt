use Rattle.std.proofs.Common.{◌≡◌, ◌<◌, ℕ, length}
use Rattle.std.specs.Prelude.{slice_index}
use Rattle.triplicate.specs.Private.Places.{tap_start}
use Rattle.triplicate.proofs.taps.no_taps.Given as goal

abbrev pub invariant-loop-y : goal.invariant-loop-y
invariant-loop-y l = record {
  next : l.next ≡ tap_start l.n.net l.y;
  long : length l.firsts.items ≡ l.y;
  each : (z : ℕ) → z < l.y → slice_index l.firsts.items z ≡ tap_start l.n.net z;
}
