use Rattle.std.proofs.Common.{◌≡◌, ◌<◌, ℕ, [], length, get_or}
use Rattle.dwc.proofs.check.same_inputs.Given as goal

abbrev pub invariant-loop-x : goal.invariant-loop-x
invariant-loop-x l = record {
  long : length l.a.net.inputs ≡ length l.b.net.inputs;
  same : (i : ℕ) → i < l.x → get_or l.a.net.inputs i [] ≡ get_or l.b.net.inputs i [];
}
