-- A replay between two cycles. Private functions alone cite it.
use Rattle.std.specs.Prelude.{◌≡◌, ℕ, ◌*◌, ◌≤◌, Bool, List}
use Rattle.tmr_base.specs.declared.ids.Upset.{Upset}
use Rattle.flat_net.specs.Net.{Net}
use Rattle.net_meaning.specs.Meaning.{IsFreeTrace, IsFreeFaultTrace, spread}
use Rattle.certificate.specs.Cert.{PlainCert}
use Rattle.schedule_replay.specs.declared.outcome.Outcome.{Outcome}
use Rattle.schedule_replay.specs.declared.starts.Starts.{Starts}
use Rattle.schedule_replay.specs.Outcome.{Counts, outputs_until, late_until}
use Rattle.schedule_replay.specs.Starts.{MarksRegisters, AreStarts}
use Rattle.schedules.specs.Schedule.{PlainSchedule}

-- the marks and start values of two designs, and the values of their nets by cycle
pub record Traces : Type 0 where
  pub marks : List Bool
  pub starts : List Bool
  pub original : List (List Bool)
  pub hardened_marks : List Bool
  pub hardened_starts : List Bool
  pub hardened : List (List Bool)

-- these are traces of the two designs over the schedule, where registers alone are marked
pub record AreTracesOf (n h : Net) (s : PlainSchedule) (v : Traces) : Type 0 where
  pub marks : MarksRegisters n v.marks
  pub original : IsFreeTrace n v.marks v.starts s.rows v.original
  pub hardened_marks : MarksRegisters h v.hardened_marks
  pub hardened : IsFreeFaultTrace h v.hardened_marks v.hardened_starts (spread s.rows) s.upsets v.hardened

-- the marked registers begin with these values
pub record BeginWith (n h : Net) (v : Traces) (starts : Starts) : Type 0 where
  pub original : AreStarts n v.marks v.starts 0 starts.original.items
  pub hardened : AreStarts h v.hardened_marks v.hardened_starts 0 starts.hardened.items

-- what was counted in the first t cycles
pub record HasCounted (n h : Net) (k : PlainCert) (us : List Upset) (tr ft : List (List Bool)) (t : ℕ) (o : Outcome) : Type 0 where
  pub counts : Counts (outputs_until n h tr ft t) o.first.items o.differences o.wrong
  pub late : o.late ≡ late_until n k us tr ft t

-- numbers that fit
pub record CountsFit (t : ℕ) (o : Outcome) : Type 0 where
  pub differences : o.differences ≤ t * 4294967295
  pub wrong : o.wrong ≤ t * 4294967295
  pub late : o.late ≤ t * 12884901885
