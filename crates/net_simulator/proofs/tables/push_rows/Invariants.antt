use Rattle.std.proofs.Common.{◌≡◌, ◌++◌, ◌||◌, drop}
use Rattle.flat_net.specs.Net.{node_of, pins_at}
use Rattle.net_simulator.specs.Tables.{rows_literals, some_always}
use Rattle.net_simulator.proofs.tables.push_rows.Given as goal

abbrev pub invariant-loop-i : goal.invariant-loop-i
invariant-loop-i l = record {
  literals : l.fn.literals.items ++ rows_literals l.cover.rows (pins_at (node_of l.net.net l.x.0)) ≡ l.literals.items ++ rows_literals (drop l.i l.cover.rows) (pins_at (node_of l.net.net l.x.0));
  some : some_always l.cover.rows (pins_at (node_of l.net.net l.x.0)) ≡ (l.always || some_always (drop l.i l.cover.rows) (pins_at (node_of l.net.net l.x.0)));
}
