-- What a campaign comes to whose upsets are too near: 64 runs of one pair, each over a schedule of pairs of upsets that the certificate does not allow.
use Rattle.std.specs.Prelude.{◌≡◌, ◌<◌, ◌≤◌, ◌⊎◌, ℕ, ◌+◌, ◌%◌, ◌^◌, true, List, [], ◌∷◌, ◌++◌, All, length, codes, slice_get, slice_index, Option, Some, None}
use Rattle.std.specs.List.{flat_map}
use Rattle.std.specs.Fmt.{decimal}
use Rattle.flat_net.specs.Net.{Net, name_of}
use Rattle.certificate.specs.Cert.{PlainCert}
use Rattle.certificate.specs.Schedules.{Allowed}
use Rattle.certificate.specs.Text.{line_text}
use Rattle.schedule_replay.specs.declared.outcome.Difference.{Difference}
use Rattle.schedule_replay.specs.declared.outcome.Outcome.{Outcome}
use Rattle.schedule_replay.specs.Outcome.{is_wrong}
use Rattle.schedules.specs.Schedule.{PlainSchedule}
use Rattle.schedule_replay.specs.Many.{AreReplaysOf}
use Rattle.tmr_trial.specs.NearSchedules.{IsNearSchedule}
use Rattle.campaigns.specs.declared.sums.CampaignSums.{CampaignSums}
use Rattle.campaigns.specs.declared.first_wrong.WrongOutput.{WrongOutput}
use Rattle.campaigns.specs.Campaign.{AreSumsOf, campaign_lines}

-- the schedule strikes somewhere, and so the certificate does not allow it; or it strikes nowhere
abbrev pub IsRefused : PlainCert → PlainSchedule → Type 0
IsRefused k s = 0 < length s.upsets → Allowed s.upsets k → ⊥

-- the schedule of run j, counted from 0, is drawn from `number` + j + 1, modulo 2^64, with so many cycles; the certificate allows none that strikes
pub record AreNearSchedules (number cycles : ℕ) (n h : Net) (k : PlainCert) (schedules : List PlainSchedule) : Type 0 where
  pub many : length schedules ≡ 64
  pub drawn : (j : ℕ) (s : PlainSchedule) → slice_get schedules j ≡ Some s → IsNearSchedule ((number + (j + 1)) % 2 ^ 64) n h k cycles s
  pub refused : All (IsRefused k) schedules

-- the run keeps this wrong output among its differences, of which a replay keeps the first 1,000
pub record IsKeptWrong (outcomes : List Outcome) (w : WrongOutput) : Type 0 where
  pub outcome : Outcome
  pub place : ℕ
  pub difference : Difference
  pub of_run : slice_get outcomes w.run ≡ Some outcome
  pub there : slice_get outcome.first.items place ≡ Some difference
  pub wrong : is_wrong difference ≡ true
  pub cycle : w.cycle ≡ difference.cycle
  pub output : w.output ≡ difference.output

-- in an earlier cycle; or in the same one at an earlier output; or at the same one in no later run
abbrev pub IsNoLater : WrongOutput → WrongOutput → Type 0
IsNoLater w v = (w.cycle < v.cycle) ⊎ ((w.cycle ≡ v.cycle) × ((w.output < v.output) ⊎ ((w.output ≡ v.output) × (w.run ≤ v.run))))

-- the first one of those of which P holds, or none where it holds of none
abbrev pub IsFirst : (WrongOutput → Type 0) → Option WrongOutput → Type 0
IsFirst P None = (w : WrongOutput) → P w → ⊥
IsFirst P (Some w) = P w × ((v : WrongOutput) → P v → IsNoLater w v)

-- what the runs come to: outcome j is that of schedule j, as in a campaign over schedules that are allowed; and which wrong output comes first
pub record IsNearCampaign (number cycles : ℕ) (n h : Net) (k : PlainCert) (sums : CampaignSums) (first : Option WrongOutput) : Type 0 where
  pub schedules : List PlainSchedule
  pub outcomes : List Outcome
  pub are_drawn : AreNearSchedules number cycles n h k schedules
  pub replays : AreReplaysOf n h k schedules outcomes
  pub are_sums : AreSumsOf schedules outcomes sums
  pub first_is : IsFirst (IsKeptWrong outcomes) first

-- `first wrong T NAME J`: the cycle, the output's name, and the run, counted from 0
abbrev pub first_wrong_line : Net → WrongOutput → List (List ℕ)
first_wrong_line n w = codes "first" ∷ codes "wrong" ∷ decimal w.cycle ∷ name_of n (slice_index n.outputs w.output) ∷ decimal w.run ∷ []

-- the five lines, and a sixth one where a wrong output is known
abbrev pub near_lines : Net → CampaignSums → Option WrongOutput → List (List (List ℕ))
near_lines n sums None = campaign_lines sums
near_lines n sums (Some w) = campaign_lines sums ++ first_wrong_line n w ∷ []

-- the text of such a campaign
pub record IsNearText (number cycles : ℕ) (n h : Net) (k : PlainCert) (text : List ℕ) : Type 0 where
  pub sums : CampaignSums
  pub first : Option WrongOutput
  pub campaign : IsNearCampaign number cycles n h k sums first
  pub text_is : text ≡ flat_map line_text (near_lines n sums first)
