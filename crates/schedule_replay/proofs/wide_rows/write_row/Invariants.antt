use Rattle.std.proofs.Common.{◌≡◌, ◌<◌, ℕ, Some, slice_get, slice_index}
use Rattle.table_cover.specs.Words.{word_bit}
use Rattle.net_meaning.specs.Meaning.{value_at}
use Rattle.schedules.specs.Schedule.{PlainSchedule}
use Rattle.schedule_replay.proofs.wide_rows.write_row.Given as goal

abbrev pub invariant-loop-i : goal.invariant-loop-i
invariant-loop-i l = (j : ℕ) (s : PlainSchedule) (k : ℕ) → slice_get l.list j ≡ Some s → k < l.i → word_bit j (slice_index l.row k) ≡ value_at s.rows l.t k
