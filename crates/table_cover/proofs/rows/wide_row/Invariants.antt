use Rattle.std.proofs.Common.{◌≡◌, ◌<◌, ℕ, ◌&&◌, drop}
use Rattle.table_cover.specs.Cover.{row_matches}
use Rattle.table_cover.specs.Words.{word_bit, bits_of}
use Rattle.table_cover.proofs.rows.wide_row.Given as goal

abbrev pub invariant-loop-i : goal.invariant-loop-i
invariant-loop-i l = (j : ℕ) → j < 64 → (word_bit j l.all && row_matches (drop l.i l.row) (bits_of j (drop l.i l.words))) ≡ row_matches l.row (bits_of j l.words)
