-- The values of the outputs in each cycle, and of their copies.
use Rattle.std.specs.Prelude.{◌≡◌, Bool, List, [], ◌∷◌, ◌++◌, length}
use Rattle.flat_net.specs.Net.{Net}
use Rattle.net_meaning.specs.Meaning.{spread, IsFreeTrace, IsFreeFaultTrace, HasOneTrace}
use Rattle.certificate.specs.Cert.{PlainCert}
use Rattle.certificate.specs.Starts.{counted, spread_start}
use Rattle.schedule_replay.specs.declared.outcome.Difference.{Difference}
use Rattle.schedule_replay.specs.Outcome.{outputs_until}
use Rattle.schedules.specs.Schedule.{PlainSchedule}
use Rattle.schedule_replay.specs.Starts.{given_starts}

-- the original's value and those of its three copies
abbrev pub wave_of : Difference → List Bool
wave_of d = d.original ∷ d.copies

abbrev pub waves : List Difference → List Bool
waves [] = []
waves (d ∷ ds) = wave_of d ++ waves ds

-- there is one trace of each design, and the values are those of all outputs in these two, cycle by cycle. f and g are the marks of n
-- and h, w and u their start values.
pub record AreWavesOf (n : Net) (f w : List Bool) (h : Net) (g u : List Bool) (s : PlainSchedule) (values : List Bool) : Type 0 where
  pub original : HasOneTrace n f w s.rows []
  pub hardened : HasOneTrace h g u (spread s.rows) s.upsets
  pub values_are : (tr ft : List (List Bool)) → IsFreeTrace n f w s.rows tr → IsFreeFaultTrace h g u (spread s.rows) s.upsets ft
      → values ≡ waves (outputs_until n h tr ft (length s.rows))

-- the same with the marks that count by the certificate, where the marked registers have the schedule's start values
abbrev pub AreFreeWaves : Net → List Bool → Net → List Bool → PlainCert → PlainSchedule → List Bool → Type 0
AreFreeWaves n f h g k s values = AreWavesOf n (counted k f) (given_starts k f s) h (counted k g) (spread_start k (given_starts k f s)) s values
