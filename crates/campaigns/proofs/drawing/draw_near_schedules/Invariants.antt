use Rattle.std.proofs.Common.{◌≡◌, ◌+◌, ◌%◌, ◌^◌, ℕ, Some, length, slice_get}
use Rattle.std.specs.Prelude.{All}
use Rattle.schedules.specs.Schedule.{PlainSchedule}
use Rattle.tmr_trial.specs.NearSchedules.{IsNearSchedule}
use Rattle.campaigns.specs.NearCampaign.{IsRefused}
use Rattle.campaigns.specs.Private.Running.{IsRunnable}
use Rattle.campaigns.proofs.drawing.draw_near_schedules.Given as goal

abbrev pub invariant-loop-j : goal.invariant-loop-j
invariant-loop-j l = record {
  many : length l.list.items ≡ l.j;
  drawn : (j : ℕ) (s : PlainSchedule) → slice_get l.list.items j ≡ Some s → IsNearSchedule ((l.number + (j + 1)) % 2 ^ 64) l.n.net l.h.net l.c l.cycles s;
  refused : All (IsRefused l.c) l.list.items;
  runnable : All (λ s. IsRunnable l.n.net l.h.net l.cycles s) l.list.items;
}
