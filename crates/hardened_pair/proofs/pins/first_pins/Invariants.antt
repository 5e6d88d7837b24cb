use Rattle.std.proofs.Common.{◌≡◌}
use Rattle.hardened_pair.specs.Private.Layouts.{first_pins_to}
use Rattle.hardened_pair.proofs.pins.first_pins.Given as goal

abbrev pub invariant-loop-j : goal.invariant-loop-j
invariant-loop-j l = l.pins.items ≡ first_pins_to l.layout l.y l.j
