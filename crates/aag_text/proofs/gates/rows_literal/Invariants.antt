use Rattle.std.proofs.Common.{◌≡◌, ◌+◌, ◌*◌, ℕ, Bool, false, drop, length}
use Rattle.std.specs.Prelude.{◌||◌}
use Rattle.aag_text.specs.Private.Gates.{next_of, AreMet, Grows, any_value, IsBelow, rows_value, rows_left}
use Rattle.aag_text.specs.Taken.{cover_gates}
use Rattle.aag_text.proofs.gates.rows_literal.Given as goal

abbrev pub invariant-loop-i : goal.invariant-loop-i
invariant-loop-i l = record {
  same : (values : ℕ → Bool) → values 0 ≡ false → AreMet values l.gates.list → rows_value values l.cover.rows l.pins ≡ (any_value values l.any || rows_value values (drop l.i l.cover.rows) l.pins);
  grows : Grows (l.i * (l.cover.width + 1)) l.fn.gates l.gates;
  count : length l.gates.list + rows_left l.any (drop l.i l.cover.rows) ≡ length l.fn.gates.list + cover_gates l.cover;
  below : IsBelow (next_of l.gates) l.any;
}
