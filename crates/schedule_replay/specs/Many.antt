-- The outcomes of several schedules.
use Rattle.std.specs.Prelude.{◌≡◌, ℕ, List, [], length, slice_get, Some}
use Rattle.flat_net.specs.Net.{Net}
use Rattle.certificate.specs.Cert.{PlainCert}
use Rattle.schedule_replay.specs.declared.outcome.Outcome.{Outcome}
use Rattle.schedule_replay.specs.Outcome.{IsReplayOf}
use Rattle.schedule_replay.specs.OutcomeView.{plain_outcome}
use Rattle.schedules.specs.Schedule.{PlainSchedule}

-- all have the same number of cycles
abbrev pub HaveOneLength : List PlainSchedule → Type 0
HaveOneLength list = (i j : ℕ) (s r : PlainSchedule) → slice_get list i ≡ Some s → slice_get list j ≡ Some r → length s.rows ≡ length r.rows

-- outcome j is that of schedule j, where nothing is marked and nodes alone are struck
pub record AreReplaysOf (n h : Net) (k : PlainCert) (list : List PlainSchedule) (outcomes : List Outcome) : Type 0 where
  pub long : length outcomes ≡ length list
  pub each : (j : ℕ) (s : PlainSchedule) (o : Outcome) → slice_get list j ≡ Some s → slice_get outcomes j ≡ Some o
      → IsReplayOf n [] [] h [] [] k s (plain_outcome o)
