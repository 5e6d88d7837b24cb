-- A schedule that is being drawn. Private functions alone cite it.
use Rattle.std.specs.Prelude.{◌≡◌, ℕ, ◌+◌, ◌<◌, ◌≤◌, List, length, All, Option}
use Rattle.tmr_base.specs.declared.ids.Upset.{Upset}
use Rattle.flat_net.specs.Net.{Net}
use Rattle.certificate.specs.Cert.{PlainCert}
use Rattle.certificate.specs.Schedules.{Allowed}
use Rattle.schedules.specs.Schedule.{PlainSchedule}
use Rattle.tmr_trial.specs.declared.strikes.Strike.{Strike}
use Rattle.tmr_trial.specs.Schedules.{IsDrawnSchedule, state_before}
use Rattle.tmr_trial.specs.Strikes.{AreStrikes}

-- the upset is of a hardened node
abbrev pub IsOfNode : PlainCert → Upset → Type 0
IsOfNode k u = (k.hardened_inputs ≤ u.net.0) × (u.net.0 < k.hardened_inputs + length k.roles)

-- t cycles are drawn
pub record HasDrawn (number : ℕ) (n h : Net) (k : PlainCert) (t state : ℕ) (strikes : List (Option Strike)) (s : PlainSchedule) : Type 0 where
  pub state_is : state ≡ state_before n h number t
  pub schedule : IsDrawnSchedule number n h k t s
  pub long : length s.rows ≡ t
  pub allowed : Allowed s.upsets k
  pub earlier : All (λ u. u.cycle < t) s.upsets
  pub few : length s.upsets ≤ t
  pub nodes : All (IsOfNode k) s.upsets
  pub strikes_are : AreStrikes k s.upsets strikes

-- the upset is of a hardened node, in the last cycle, and later than all others
pub record IsNext (k : PlainCert) (u : Upset) (strikes : List (Option Strike)) (s : PlainSchedule) : Type 0 where
  pub low : k.hardened_inputs ≤ u.net.0
  pub high : u.net.0 < k.hardened_inputs + length k.roles
  pub earlier : All (λ v. v.cycle < u.cycle) s.upsets
  pub range : u.cycle < length s.rows
  pub room : length s.upsets < 1048576
  pub allowed : Allowed s.upsets k
  pub strikes_are : AreStrikes k s.upsets strikes
