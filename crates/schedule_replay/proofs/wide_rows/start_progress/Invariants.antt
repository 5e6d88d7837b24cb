use Rattle.std.proofs.Common.{◌≡◌, ℕ, Some, length, slice_get}
use Rattle.schedule_replay.specs.declared.wide_rows.Progress.{Progress}
use Rattle.schedule_replay.specs.Wide.{IsFresh}
use Rattle.schedule_replay.proofs.wide_rows.start_progress.Given as goal

abbrev pub invariant-loop-made : goal.invariant-loop-made
invariant-loop-made l = record {
  long : length l.runs.items ≡ l.made;
  each : (j : ℕ) (p : Progress) → slice_get l.runs.items j ≡ Some p → IsFresh l.c p;
}
