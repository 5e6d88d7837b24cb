use Rattle.std.proofs.Common.{◌≡◌, ◌<◌, ◌*◌, ◌-◌, ℕ, ◌||◌, length}
use Rattle.table_cover.specs.Cover.{some_row_matches}
use Rattle.table_cover.specs.Rows.{cut_rows}
use Rattle.table_cover.specs.Words.{word_bit, bits_of}
use Rattle.table_cover.proofs.rows.wide_some_row.Given as goal

abbrev pub invariant-loop-next : goal.invariant-loop-next
invariant-loop-next l = record {
  same : (j : ℕ) → j < 64 → (word_bit j l.any || some_row_matches (cut_rows l.width (l.count - l._next) l.rest) (bits_of j l.words)) ≡ some_row_matches (cut_rows l.width l.count l.marks) (bits_of j l.words);
  long : length l.rest ≡ (l.count - l._next) * l.width;
}
