use Rattle.std.proofs.Common.{◌≡◌, ◌*◌, ◌-◌, length}
use Rattle.table_cover.specs.Cover.{some_row_matches}
use Rattle.table_cover.specs.Rows.{cut_rows}
use Rattle.table_cover.proofs.rows.some_row_fits.Given as goal

abbrev pub invariant-loop-row : goal.invariant-loop-row
invariant-loop-row l = record {
  same : some_row_matches (cut_rows l.width l.count l.marks) l.bits ≡ some_row_matches (cut_rows l.width (l.count - l._row) l.rest) l.bits;
  long : length l.rest ≡ (l.count - l._row) * l.width;
}
