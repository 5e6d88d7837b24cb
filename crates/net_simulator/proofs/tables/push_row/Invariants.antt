use Rattle.std.proofs.Common.{◌≡◌, ◌++◌, false, drop}
use Rattle.flat_net.specs.Net.{node_of, pins_at}
use Rattle.net_simulator.specs.Tables.{row_literals, has_literal}
use Rattle.net_simulator.proofs.tables.push_row.Given as goal

abbrev pub invariant-loop-i : goal.invariant-loop-i
invariant-loop-i l = record {
  literals : l.fn.literals.items ++ row_literals false l.row (pins_at (node_of l.net.net l.x.0)) ≡ l.literals.items ++ row_literals l.begun (drop l.i l.row) (drop l.i (pins_at (node_of l.net.net l.x.0)));
  some : has_literal false l.row (pins_at (node_of l.net.net l.x.0)) ≡ has_literal l.begun (drop l.i l.row) (drop l.i (pins_at (node_of l.net.net l.x.0)));
}
