use Rattle.std.proofs.Common.{ℕ, ◌<◌, Bool, List}
use Rattle.table_cover.specs.Words.{bits_of}
use Rattle.net_simulator.specs.Settled.{IsSettled, IsInput, IsHeldAmong, marked, number_of_cycle}
use Rattle.net_simulator.specs.Registers.{held_nets}
use Rattle.net_simulator.proofs.cycle.set_registers.Given as goal

abbrev pub invariant-loop-i : goal.invariant-loop-i
invariant-loop-i l = (j : ℕ) (ins : List Bool) → j < 64 → IsSettled l.net.net (number_of_cycle l.started) ins (bits_of j l.before) (marked l.marks j) (IsInput l.net.net) (bits_of j l.fn.now)
    → IsSettled l.net.net (number_of_cycle l.started) ins (bits_of j l.before) (marked l.marks j) (IsHeldAmong l.net.net (held_nets l.registers) l.i) (bits_of j l.now)
