use Rattle.std.proofs.Common.{◌≡◌, ◌+◌, ◌<◌, ◌≤◌, length, drop}
use Rattle.hierarchy.specs.Sizes.{row_total}
use Rattle.aag_text.specs.Private.Gates.{next_of, AreBelow, Grows}
use Rattle.aag_text.specs.Private.Nets.{AreRight, OnlyTables}
use Rattle.aag_text.specs.Taken.{gate_total}
use Rattle.aag_text.proofs.Rows.{order_rows, order_gates}
use Rattle.aag_text.proofs.nets.make_tables.Given as goal

abbrev pub invariant-loop-i : goal.invariant-loop-i
invariant-loop-i l = record {
  right : AreRight l.n.net l.n.order l.i l.fn.literals l.literals l.gates;
  others : OnlyTables l.n.net l.fn.literals l.literals;
  below : AreBelow (next_of l.gates) l.literals;
  long : length l.literals ≡ length l.fn.literals;
  zero : 0 < next_of l.gates;
  room : next_of l.gates + order_rows l.n.net (drop l.i l.n.order) ≤ next_of l.fn.gates + row_total l.n.net;
  count : length l.gates.list + order_gates l.n.net (drop l.i l.n.order) ≡ length l.fn.gates.list + gate_total l.n.net;
  grows : Grows (row_total l.n.net) l.fn.gates l.gates;
}
