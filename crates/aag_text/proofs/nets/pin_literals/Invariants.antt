use Rattle.std.proofs.Common.{◌≡◌, ℕ, map, take}
use Rattle.flat_net.specs.Net.{node_of, pins_at}
use Rattle.aag_text.specs.Private.Gates.{AreBelow}
use Rattle.aag_text.specs.Private.Nets.{literal_at}
use Rattle.aag_text.proofs.nets.pin_literals.Given as goal

abbrev pub invariant-loop-j : goal.invariant-loop-j
invariant-loop-j l = record {
  pins : l.pins.items ≡ map (literal_at l.literals) (take l.j (pins_at (node_of l.n.net l.x.0)));
  below : (next : ℕ) → AreBelow next l.literals → AreBelow next l.pins.items;
}
