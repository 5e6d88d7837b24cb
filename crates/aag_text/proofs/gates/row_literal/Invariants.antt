use Rattle.std.proofs.Common.{◌≡◌, ◌+◌, ℕ, Bool, drop, length}
use Rattle.std.specs.Prelude.{◌&&◌}
use Rattle.aag_text.specs.Private.Gates.{next_of, AreMet, Grows, all_value, IsBelow, row_value, marks_left}
use Rattle.aag_text.specs.Taken.{row_gates}
use Rattle.aag_text.proofs.gates.row_literal.Given as goal

abbrev pub invariant-loop-j : goal.invariant-loop-j
invariant-loop-j l = record {
  same : (values : ℕ → Bool) → AreMet values l.gates.list → row_value values l.row l.pins ≡ (all_value values l.all && row_value values (drop l.j l.row) (drop l.j l.pins));
  grows : Grows l.j l.fn.gates l.gates;
  count : length l.gates.list + marks_left l.all (drop l.j l.row) ≡ length l.fn.gates.list + row_gates l.row;
  below : IsBelow (next_of l.gates) l.all;
}
