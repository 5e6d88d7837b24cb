use Rattle.std.proofs.Common.{◌≡◌, ◌<◌, ◌≤◌, ℕ, Some, length, slice_get}
use Rattle.schedule_replay.specs.declared.outcome.Outcome.{Outcome}
use Rattle.schedule_replay.specs.Wide.{LateRun}
use Rattle.schedule_replay.proofs.wide_comparing.late_runs.Given as goal

abbrev pub invariant-loop-j : goal.invariant-loop-j
invariant-loop-j l = record {
  long : length l.o.items ≡ length l.fn.o.items;
  done : (k : ℕ) (a b : Outcome) → k < l.j → slice_get l.fn.o.items k ≡ Some a → slice_get l.o.items k ≡ Some b → LateRun l.w l.runs l.p.0 l.depth l.t k a b;
  rest : (k : ℕ) → l.j ≤ k → slice_get l.o.items k ≡ slice_get l.fn.o.items k;
}
