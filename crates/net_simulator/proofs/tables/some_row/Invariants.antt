use Rattle.std.proofs.Common.{◌≡◌, ◌<◌, ℕ, false, drop}
use Rattle.table_cover.specs.Words.{word_bit, bits_of}
use Rattle.net_meaning.specs.Meaning.{bit}
use Rattle.net_simulator.specs.Tables.{some_fits}
use Rattle.net_simulator.proofs.tables.some_row.Given as goal

abbrev pub invariant-loop-i : goal.invariant-loop-i
invariant-loop-i l = (j : ℕ) → j < 64 → some_fits (bit (bits_of j l.now)) l.always false l.literals ≡ some_fits (bit (bits_of j l.now)) (word_bit j l.earlier) (word_bit j l.present) (drop l.i l.literals)
