use Rattle.std.proofs.Common.{◌≡◌, ◌<◌, ◌≤◌, ℕ, false, Some, slice_get}
use Rattle.table_cover.specs.Words.{word_bit}
use Rattle.net_meaning.specs.Meaning.{value_at}
use Rattle.schedules.specs.Schedule.{PlainSchedule}
use Rattle.schedule_replay.proofs.wide_rows.input_word.Given as goal

abbrev pub invariant-loop-j : goal.invariant-loop-j
invariant-loop-j l = record {
  done : (i : ℕ) (s : PlainSchedule) → i < l.j → slice_get l.list i ≡ Some s → word_bit i l.word ≡ value_at s.rows l.t l.i;
  rest : (i : ℕ) → l.j ≤ i → i < 64 → word_bit i l.word ≡ false;
}
