use Rattle.std.proofs.Common.{◌≡◌, ◌<◌, ◌≤◌, ℕ, length, slice_get}
use Rattle.dwc.proofs.check.differing_node.Given as goal

abbrev pub invariant-loop-i : goal.invariant-loop-i
invariant-loop-i l = record {
  long : l.i ≤ length l.b.net.nodes;
  same : (i : ℕ) → i < l.i → slice_get l.a.net.nodes i ≡ slice_get l.b.net.nodes i;
}
