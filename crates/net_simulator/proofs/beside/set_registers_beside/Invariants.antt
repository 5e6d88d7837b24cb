use Rattle.std.proofs.Common.{◌≡◌, ◌<◌, ℕ, Bool, List, length, slice_index}
use Rattle.table_cover.specs.Words.{bits_of}
use Rattle.flat_net.specs.Net.{node_of, IsTable}
use Rattle.net_simulator.specs.Beside.{AreReadersOf, IsBeside, IsRoom}
use Rattle.net_simulator.specs.Settled.{IsSettled, IsInput, IsHeldAmong, marked, number_of_cycle}
use Rattle.net_simulator.specs.Registers.{held_nets}
use Rattle.net_simulator.proofs.beside.set_registers_beside.Given as goal

abbrev pub invariant-loop-i : goal.invariant-loop-i
invariant-loop-i l = record {
  room : IsRoom (length l.now) l.twins l.changes;
  sized : length l.changes.differing.items ≡ length l.fn.changes.differing.items;
  long : length l.now ≡ length l.fn.now;
  settled : (j : ℕ) (ins : List Bool) → j < 64 → IsSettled l.net.net (number_of_cycle l.given.started) ins (bits_of j l.given.before.now) (marked l.marks j) (IsInput l.net.net) (bits_of j l.fn.now)
      → IsSettled l.net.net (number_of_cycle l.given.started) ins (bits_of j l.given.before.now) (marked l.marks j) (IsHeldAmong l.net.net (held_nets l.registers) l.i) (bits_of j l.now);
  tables : (x : ℕ) → IsTable (node_of l.net.net x) → slice_index l.now x ≡ slice_index l.fn.now x;
  beside : (own : List ℕ) → AreReadersOf l.net.net l.twins.readers → IsBeside l.net.net l.twins l.marks own l.fn.now l.fn.changes → IsBeside l.net.net l.twins l.marks own l.now l.changes;
}
