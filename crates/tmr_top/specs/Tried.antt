-- `trial NUMBER NODES`: what it comes to. It loads and saves nothing.
use Rattle.std.specs.Prelude.{◌≡◌, ◌↔◌, ℕ, Bool, List, [], ◌∷◌, codes, IsTrue}
use Rattle.flat_net.specs.Net.{Net}
use Rattle.certificate.specs.Cert.{PlainCert}
use Rattle.partitioner.specs.Refining.{IsMinimal}
use Rattle.triplicate.specs.Form.{HardenedForm, parts_of}
use Rattle.campaigns.specs.declared.sums.CampaignSums.{CampaignSums}
use Rattle.campaigns.specs.Campaign.{IsCampaign}
use Rattle.tmr_trial.specs.Designs.{design_of}
use Rattle.tmr_top.specs.declared.decision.Verdict.{Verdict}
use Rattle.tmr_top.specs.declared.decision.Verdict.TheVariants.{Done, NotAccepted, Refused}
use Rattle.tmr_texts.specs.declared.form_text.FormNumbers.{FormNumbers}
use Rattle.tmr_texts.specs.Texts.{joined, counted_text}
use Rattle.tmr_texts.specs.FormText.{form_numbers, form_lines}
use Rattle.tmr_words.specs.Trials.{Trial}

-- nine lines: four on the hardened form, and five on the runs
unfoldable pub trial_lines : FormNumbers → CampaignSums → List ℕ
trial_lines f sums =
    joined (form_lines f ∷ counted_text (codes "runs 64\nupsets ") sums.upsets ∷ counted_text (codes "\ndifferences ") sums.differences
    ∷ counted_text (codes "\nwrong ") sums.wrong ∷ counted_text (codes "\nlate ") sums.late ∷ codes "\n" ∷ [])

-- done: all nine lines tell of one pair, a hardened form of the drawn design with partitions of 64 nodes; `minimal` says whether no single move of a node
-- lowers the cost of its partitions, and the last five lines are those of a campaign of 64 cycles on that pair
pub record IsTried (t : Trial) (text : List ℕ) : Type 0 where
  pub hardened : Net
  pub certificate : PlainCert
  pub form : HardenedForm (design_of t.number t.nodes) 64 hardened certificate
  pub minimal : Bool
  pub is_minimal : IsTrue minimal ↔ IsMinimal (design_of t.number t.nodes) 64 (parts_of certificate)
  pub sums : CampaignSums
  pub runs : IsCampaign t.number 64 (design_of t.number t.nodes) hardened certificate sums
  pub says : text ≡ trial_lines (form_numbers (design_of t.number t.nodes) 64 hardened certificate minimal) sums

abbrev pub Tried : Trial → Verdict → List (List ℕ) → List ℕ → Type 0
Tried t Done saved text = IsTried t text × (saved ≡ [])
Tried t NotAccepted saved text = ⊥
Tried t Refused saved text = ⊥
