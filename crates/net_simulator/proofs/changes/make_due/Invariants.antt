use Rattle.std.proofs.Common.{◌≡◌, ◌<◌, ℕ, false, true, length, slice_index}
use Rattle.net_meaning.specs.Meaning.{bit}
use Rattle.net_simulator.proofs.changes.make_due.Given as goal

abbrev pub invariant-loop-i : goal.invariant-loop-i
invariant-loop-i l = record {
  due : (k : ℕ) → k < l.i → slice_index l.readers k < length l.due → bit l.due (slice_index l.readers k) ≡ true;
  kept : (y : ℕ) → bit l.due y ≡ false → bit l.fn.due y ≡ false;
  long : length l.due ≡ length l.fn.due;
}
