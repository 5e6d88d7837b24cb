use Rattle.std.proofs.Common.{◌≡◌, ◌≢◌, ◌<◌, ℕ, false, length, map, slice_index}
use Rattle.net_meaning.specs.Meaning.{bit}
use Rattle.net_simulator.proofs.changes.make_forced_due.Given as goal

abbrev pub invariant-loop-i : goal.invariant-loop-i
invariant-loop-i l = record {
  free : (y k : ℕ) → bit l.due y ≡ false → k < l.i → slice_index (map (λ f. f.0.0) l.triples) k ≢ y;
  kept : (y : ℕ) → bit l.due y ≡ false → bit l.fn.due y ≡ false;
  long : length l.due ≡ length l.fn.due;
}
