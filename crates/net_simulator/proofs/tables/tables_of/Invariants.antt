use Rattle.std.proofs.Common.{◌≡◌}
use Rattle.net_simulator.specs.Tables.{entries, literals, entry_nets}
use Rattle.net_simulator.proofs.Ordering.{HasTables}
use Rattle.net_simulator.proofs.tables.tables_of.Given as goal

abbrev pub invariant-loop-i : goal.invariant-loop-i
invariant-loop-i l = record {
  has : HasTables l.net.net l.net.order l.i (entry_nets l.entries.items);
  entries : l.entries.items ≡ entries l.net.net (entry_nets l.entries.items);
  literals : l.literals.items ≡ literals l.net.net (entry_nets l.entries.items);
}
