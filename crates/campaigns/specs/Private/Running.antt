-- Schedules and outcomes of a campaign.
use Rattle.std.specs.Prelude.{◌≡◌, ◌≤◌, ℕ, All, length}
use Rattle.flat_net.specs.Net.{Net}
use Rattle.schedule_replay.specs.declared.outcome.Outcome.{Outcome}
use Rattle.schedules.specs.Reading.{IsNodeOf}
use Rattle.schedules.specs.Schedule.{PlainSchedule, IsPlainSchedule}

-- so many cycles of the original's inputs, with upsets of hardened nodes
pub record IsRunnable (n h : Net) (count : ℕ) (s : PlainSchedule) : Type 0 where
  pub inputs : s.inputs ≡ length n.inputs
  pub cycles : length s.rows ≡ count
  pub nodes : All (λ u. IsNodeOf h u.net.0) s.upsets
  pub plain : IsPlainSchedule s

-- at most one difference for each cycle and each output, and at most three late copies for each cycle and node
pub record IsBounded (o : Outcome) : Type 0 where
  pub differences : o.differences ≤ 4503599627370496
  pub wrong : o.wrong ≤ 4503599627370496
  pub late : o.late ≤ 13510798882111488
