use Rattle.std.proofs.Common.{◌≡◌, ◌<◌, ℕ, Some, length, slice_get}
use Rattle.schedules.specs.Schedule.{PlainSchedule}
use Rattle.replay_cases.proofs.list.have_one_length.Given as goal

abbrev pub invariant-loop-j : goal.invariant-loop-j
invariant-loop-j l = (i : ℕ) (s r : PlainSchedule) → i < l.j → slice_get l.list i ≡ Some s → slice_get l.list 0 ≡ Some r → length s.rows ≡ length r.rows
