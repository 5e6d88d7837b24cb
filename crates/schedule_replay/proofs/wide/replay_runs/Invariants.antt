use Rattle.std.proofs.Common.{◌≡◌, ℕ, Some, length, slice_get}
use Rattle.std.specs.Prelude.{All, IsTrue, ◌↔◌}
use Rattle.certificate.specs.Schedules.{Allowed}
use Rattle.schedule_replay.specs.declared.outcome.Outcome.{Outcome}
use Rattle.schedule_replay.specs.Running.{Traces, AreTracesOf, BeginWith, HasCounted, CountsFit}
use Rattle.schedules.specs.Schedule.{PlainSchedule}
use Rattle.schedule_replay.specs.Wide.{HaveTaken, IsWideReady, HasRunWide}
use Rattle.schedule_replay.proofs.wide.replay_runs.Given as goal

abbrev pub invariant-loop-t : goal.invariant-loop-t
invariant-loop-t l = record {
  ready : IsWideReady l.n.net l.h.net l.c l.running;
  taken : HaveTaken l.c l.list l.t l.runs.items;
  long : length l.outcomes.items ≡ length l.list;
  bounded : All (λ a. CountsFit l.t a) l.outcomes.items;
  allowed : (j : ℕ) (s : PlainSchedule) (o : Outcome) → slice_get l.list j ≡ Some s → slice_get l.outcomes.items j ≡ Some o → IsTrue o.allowed ↔ Allowed s.upsets l.c;
  counted : (j : ℕ) (s : PlainSchedule) (o : Outcome) (v : Traces) → slice_get l.list j ≡ Some s → slice_get l.outcomes.items j ≡ Some o →
      AreTracesOf l.n.net l.h.net s v → BeginWith l.n.net l.h.net v l.starts → HasRunWide l.n.net l.h.net v l.t j l.running × HasCounted l.n.net l.h.net l.c s.upsets v.original v.hardened l.t o;
}
