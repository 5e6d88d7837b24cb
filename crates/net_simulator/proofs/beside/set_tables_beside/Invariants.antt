use Rattle.std.proofs.Common.{◌≡◌, ◌<◌, ◌≤◌, ℕ, Bool, List, length, slice_index, drop}
use Rattle.table_cover.specs.Words.{bits_of}
use Rattle.flat_net.specs.Net.{Net}
use Rattle.net_simulator.specs.Beside.{AreReadersOf, AreTwins, AreTablesOwn, IsBeside, IsRoom}
use Rattle.net_simulator.specs.Settled.{IsSettled, IsNoTable, IsAmong, marked}
use Rattle.net_simulator.specs.Tables.{literals, entry_nets}
use Rattle.net_simulator.specs.Truth.{all_short_pins}
use Rattle.net_simulator.specs.Twins.{AreTablesMet}
use Rattle.net_simulator.proofs.beside.set_tables_beside.Given as goal

abbrev pub invariant-loop-i : goal.invariant-loop-i
invariant-loop-i l = record {
  rest : l.rest ≡ literals l.net.net (drop l.i (entry_nets l.tables.entries.items));
  pins : l.rest_pins ≡ all_short_pins l.net.net (drop l.i (entry_nets l.tables.entries.items));
  room : IsRoom (length l.now) l.twins l.changes;
  sized : length l.changes.differing.items ≡ length l.fn.changes.differing.items;
  long : length l.now ≡ length l.fn.now;
  beside : (own : List ℕ) → AreReadersOf l.net.net l.twins.readers → IsBeside l.net.net l.twins l.marks own l.fn.now l.fn.changes → IsBeside l.net.net l.twins l.marks own l.now l.changes;
  ahead : (m : ℕ) → l.i ≤ m → m < length (entry_nets l.tables.entries.items)
      → slice_index l.now (slice_index (entry_nets l.tables.entries.items) m) ≡ slice_index l.fn.now (slice_index (entry_nets l.tables.entries.items) m);
  settled : (j t : ℕ) (ins before : List Bool) (n : Net) (own : List ℕ) → j < 64 → AreTwins n l.net.net l.twins → AreTablesMet n (bits_of j own) → AreTablesOwn l.net.net l.twins own l.fn.now
      → IsBeside l.net.net l.twins l.marks own l.fn.now l.fn.changes
      → IsSettled l.net.net t ins before (marked l.marks j) (IsNoTable l.net.net) (bits_of j l.fn.now)
      → IsSettled l.net.net t ins before (marked l.marks j) (IsAmong l.net.net (entry_nets l.tables.entries.items) l.i) (bits_of j l.now);
}
