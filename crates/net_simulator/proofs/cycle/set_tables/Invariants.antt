use Rattle.std.proofs.Common.{◌≡◌, ◌<◌, ℕ, Bool, List, drop}
use Rattle.table_cover.specs.Words.{bits_of}
use Rattle.net_simulator.specs.Settled.{IsSettled, IsNoTable, IsAmong, marked, number_of_cycle}
use Rattle.net_simulator.specs.Tables.{literals, entry_nets}
use Rattle.net_simulator.specs.Truth.{all_short_pins}
use Rattle.net_simulator.proofs.cycle.set_tables.Given as goal

abbrev pub invariant-loop-i : goal.invariant-loop-i
invariant-loop-i l = record {
  rest : l.rest ≡ literals l.net.net (drop l.i (entry_nets l.tables.entries.items));
  pins : l.rest_pins ≡ all_short_pins l.net.net (drop l.i (entry_nets l.tables.entries.items));
  settled : (j : ℕ) (ins : List Bool) → j < 64 → IsSettled l.net.net (number_of_cycle l.started) ins (bits_of j l.before) (marked l.marks j) (IsNoTable l.net.net) (bits_of j l.fn.now)
      → IsSettled l.net.net (number_of_cycle l.started) ins (bits_of j l.before) (marked l.marks j) (IsAmong l.net.net (entry_nets l.tables.entries.items) l.i) (bits_of j l.now);
}
