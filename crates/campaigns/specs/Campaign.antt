-- What a campaign comes to: 64 runs of one pair, each over a schedule of upsets that is drawn from a number.
use Rattle.std.specs.Prelude.{◌≡◌, ℕ, ◌+◌, ◌%◌, ◌^◌, List, [], ◌∷◌, All, length, codes, sum_by, slice_get, Some}
use Rattle.std.specs.List.{flat_map}
use Rattle.std.specs.Fmt.{decimal}
use Rattle.flat_net.specs.Net.{Net}
use Rattle.certificate.specs.Cert.{PlainCert}
use Rattle.certificate.specs.Schedules.{Allowed}
use Rattle.certificate.specs.Text.{line_text}
use Rattle.schedule_replay.specs.declared.outcome.Outcome.{Outcome}
use Rattle.schedules.specs.Schedule.{PlainSchedule}
use Rattle.schedule_replay.specs.Many.{AreReplaysOf}
use Rattle.tmr_trial.specs.Schedules.{IsDrawnSchedule}
use Rattle.campaigns.specs.declared.sums.CampaignSums.{CampaignSums}

-- the schedule of run j, counted from 0, is drawn from `number` + j + 1, modulo 2^64, as a trial draws it, with so many cycles; the certificate allows each
pub record AreCampaignSchedules (number cycles : ℕ) (n h : Net) (k : PlainCert) (schedules : List PlainSchedule) : Type 0 where
  pub many : length schedules ≡ 64
  pub drawn : (j : ℕ) (s : PlainSchedule) → slice_get schedules j ≡ Some s → IsDrawnSchedule ((number + (j + 1)) % 2 ^ 64) n h k cycles s
  pub allowed : All (λ s. Allowed s.upsets k) schedules

-- the numbers are the sums over the runs
pub record AreSumsOf (schedules : List PlainSchedule) (outcomes : List Outcome) (sums : CampaignSums) : Type 0 where
  pub upsets : sums.upsets ≡ sum_by (λ s. length s.upsets) schedules
  pub differences : sums.differences ≡ sum_by (λ o. o.differences) outcomes
  pub wrong : sums.wrong ≡ sum_by (λ o. o.wrong) outcomes
  pub late : sums.late ≡ sum_by (λ o. o.late) outcomes

-- what the runs come to: outcome j is that of schedule j. Every register begins with its initial value, and with 0 where that is free. Nothing is
-- wrong and nothing is late.
pub record IsCampaign (number cycles : ℕ) (n h : Net) (k : PlainCert) (sums : CampaignSums) : Type 0 where
  pub schedules : List PlainSchedule
  pub outcomes : List Outcome
  pub are_drawn : AreCampaignSchedules number cycles n h k schedules
  pub replays : AreReplaysOf n h k schedules outcomes
  pub are_sums : AreSumsOf schedules outcomes sums
  pub none_wrong : sums.wrong ≡ 0
  pub none_late : sums.late ≡ 0

-- the five lines
abbrev pub campaign_lines : CampaignSums → List (List (List ℕ))
campaign_lines sums =
    (codes "runs" ∷ decimal 64 ∷ []) ∷ (codes "upsets" ∷ decimal sums.upsets ∷ []) ∷ (codes "differences" ∷ decimal sums.differences ∷ [])
    ∷ (codes "wrong" ∷ decimal sums.wrong ∷ []) ∷ (codes "late" ∷ decimal sums.late ∷ []) ∷ []

abbrev pub campaign_text : CampaignSums → List ℕ
campaign_text sums = flat_map line_text (campaign_lines sums)

-- the text of a campaign
pub record IsCampaignText (number cycles : ℕ) (n h : Net) (k : PlainCert) (text : List ℕ) : Type 0 where
  pub sums : CampaignSums
  pub campaign : IsCampaign number cycles n h k sums
  pub text_is : text ≡ campaign_text sums
