use Rattle.std.proofs.Common.{◌≡◌, ◌<◌, ◌≤◌, ℕ, length, slice_get}
use Rattle.dwc.proofs.check.differing_output.Given as goal

abbrev pub invariant-loop-k : goal.invariant-loop-k
invariant-loop-k l = record {
  long : l.k ≤ length l.b.net.outputs;
  same : (i : ℕ) → i < l.k → slice_get l.a.net.outputs i ≡ slice_get l.b.net.outputs i;
}
