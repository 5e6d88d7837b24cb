use Rattle.std.proofs.Common.{◌≡◌, ◌<◌, ℕ, length, get_or}
use Rattle.flat_net.specs.Net.{node_of, pins_at}
use Rattle.dwc.proofs.check.same_pins.Given as goal

abbrev pub invariant-loop-j : goal.invariant-loop-j
invariant-loop-j l = record {
  long : length (pins_at (node_of l.a.net l.x.0)) ≡ length (pins_at (node_of l.b.net l.x.0));
  same : (i : ℕ) → i < l.j → get_or (pins_at (node_of l.a.net l.x.0)) i 0 ≡ get_or (pins_at (node_of l.b.net l.x.0)) i 0;
}
