use Rattle.std.proofs.Common.{◌≡◌}
use Rattle.schedule_replay.specs.Outcome.{outputs_until}
use Rattle.schedule_replay.specs.Running.{Traces, AreTracesOf, BeginWith}
use Rattle.schedule_replay.specs.Waves.{waves}
use Rattle.schedule_replay.specs.Wide.{HaveTaken, IsWideReady, HasRunWide}
use Rattle.schedule_replay.proofs.waving.waves_from.Given as goal

abbrev pub invariant-loop-t : goal.invariant-loop-t
invariant-loop-t l = record {
  ready : IsWideReady l.n.net l.h.net l.c l.running;
  taken : HaveTaken l.c l.list l.t l.runs.items;
  ran : (v : Traces) → AreTracesOf l.n.net l.h.net l.s v → BeginWith l.n.net l.h.net v l.starts → HasRunWide l.n.net l.h.net v l.t 0 l.running;
  values : (v : Traces) → AreTracesOf l.n.net l.h.net l.s v → BeginWith l.n.net l.h.net v l.starts → l.values.items ≡ waves (outputs_until l.n.net l.h.net v.original v.hardened l.t);
}
