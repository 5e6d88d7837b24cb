use Rattle.std.proofs.Common.{◌≡◌, ◌+◌, ◌<◌, ◌≤◌, ℕ, Some, None, length, slice_get}
use Rattle.std.specs.Prelude.{All}
use Rattle.net_meaning.specs.Meaning.{upset_at}
use Rattle.net_simulator.specs.Cycle.{forced_in}
use Rattle.schedule_replay.specs.declared.wide_rows.Progress.{Progress}
use Rattle.schedules.specs.Schedule.{PlainSchedule}
use Rattle.schedule_replay.specs.Wide.{HasTurned}
use Rattle.schedule_replay.proofs.wide_rows.take_runs.Given as goal

abbrev pub invariant-loop-j : goal.invariant-loop-j
invariant-loop-j l = record {
  long : length l.runs.items ≡ length l.list;
  done : (i : ℕ) (a b : Progress) → i < l.j → slice_get l.fn.runs.items i ≡ Some a → slice_get l.runs.items i ≡ Some b → HasTurned l.c l.list l.t i a b;
  rest : (i : ℕ) → l.j ≤ i → slice_get l.runs.items i ≡ slice_get l.fn.runs.items i;
  struck : (i : ℕ) (s : PlainSchedule) (x : ℕ) → i < l.j → slice_get l.list i ≡ Some s → forced_in i l.struck.items x ≡ upset_at s.upsets l.t x;
  free : (i x : ℕ) → l.j ≤ i → i < 64 → forced_in i l.struck.items x ≡ None;
  nets : All (λ f. f.0.0 < l.c.hardened_inputs + length l.c.roles) l.struck.items;
}
