use Rattle.std.proofs.Common.{◌≡◌, ◌<◌, ℕ, Some, length, slice_get}
use Rattle.schedule_replay.specs.declared.outcome.Outcome.{Outcome}
use Rattle.schedules.specs.Schedule.{PlainSchedule, IsPlainSchedule}
use Rattle.schedule_replay.specs.Wide.{HasBegun}
use Rattle.schedule_replay.proofs.wide.start_outcomes.Given as goal

abbrev pub invariant-loop-j : goal.invariant-loop-j
invariant-loop-j l = record {
  long : length l.outcomes.items ≡ l.j;
  each : (i : ℕ) (o : Outcome) → slice_get l.outcomes.items i ≡ Some o → (s : PlainSchedule) → slice_get l.list i ≡ Some s → HasBegun l.c s o;
  plain : (i : ℕ) (s : PlainSchedule) → i < l.j → slice_get l.list i ≡ Some s → IsPlainSchedule s;
}
