use Rattle.std.proofs.Common.{◌≡◌, length, map, drop}
use Rattle.toml.specs.View.{view}
use Rattle.schedules.proofs.reading.read_rows.Given as goal
use Rattle.schedules.specs.Document.{listed_rows}
use Rattle.schedules.specs.Private.Reading.{rows_from}

abbrev pub invariant-loop-t : goal.invariant-loop-t
invariant-loop-t l = record {
  so_far : rows_from l.width l.t l.s.rows (map view (drop l.t l.rows)) ≡ listed_rows l.width (map view l.rows);
  long : length l.s.rows ≡ l.t;
  inputs : l.s.inputs ≡ l.width;
  upsets : l.s.upsets ≡ l.fn.s.upsets;
  starts : l.s.starts ≡ l.fn.s.starts;
}
