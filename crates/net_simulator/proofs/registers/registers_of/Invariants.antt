use Rattle.std.proofs.Common.{◌+◌, length}
use Rattle.std.specs.Prelude.{All}
use Rattle.net_simulator.specs.Registers.{Holds}
use Rattle.net_simulator.proofs.Lanes.{Known}
use Rattle.net_simulator.proofs.registers.registers_of.Given as goal

abbrev pub invariant-loop-i : goal.invariant-loop-i
invariant-loop-i l = record {
  held : All (λ r. Holds l.net.net r) l.registers.items;
  known : Known l.net.net l.registers.items (length l.net.net.inputs + l.i);
}
