-- What a trial comes to.
use Rattle.std.proofs.Common.{◌≡◌, ℕ, ◌+◌, ◌*◌, ◌≤◌, List, length, refl, subst, ap, ◌∙◌, arith}
use Rattle.std.specs.Prelude.{◌↔◌, Bool, IsTrue}
use Rattle.flat_net.specs.Net.{Net, net_count, pin_total}
use Rattle.certificate.specs.Cert.{PlainCert, Fits}
use Rattle.certificate.specs.Rules.{IsFirstFailure}
use Rattle.partitioner.specs.Refining.{IsMinimal}
use Rattle.triplicate.specs.Form.{HardenedForm, parts_of}
use Rattle.schedule_replay.proofs.Quiet.{three_outputs}
use Rattle.limits.specs.Most.{widest_nets}
use Rattle.tmr_trial.specs.Designs.{design_of}
use Rattle.tmr_trial.proofs.NodeLaws.{pins_few}
use Rattle.tmr_trial.proofs.Valid.{count_is}
use Rattle.campaigns.specs.declared.sums.CampaignSums.{CampaignSums}
use Rattle.campaigns.specs.Campaign.{IsCampaign}
use Rattle.tmr_texts.specs.FormText.{form_numbers}
use Rattle.tmr_words.specs.Trials.{Trial}
use Rattle.tmr_top.specs.Tried.{IsTried, trial_lines}

-- ---- the design and its hardened form

-- a drawn design is small enough to be hardened
pub few_enough : (number nodes : ℕ) → nodes ≤ 100000 → net_count (design_of number nodes) + pin_total (design_of number nodes) ≤ widest_nets
unfolding design_of
few_enough number nodes few = omega (arith, few, count_is number nodes few, pins_few number nodes)

pub form_fits : (n : Net) (size : ℕ) (h : Net) (k : PlainCert) → HardenedForm n size h k → Fits n h k
form_fits n size h k form = form.tripled.fits

pub form_version : (n : Net) (size : ℕ) (h : Net) (k : PlainCert) → HardenedForm n size h k → k.version ≡ 1
form_version n size h k form = form.version

-- no rule fails
pub none_fails : (n : Net) (size : ℕ) (h : Net) (k : PlainCert) (rule place : ℕ) → HardenedForm n size h k → IsFirstFailure n h k rule place → ⊥
none_fails n size h k rule place form first = first.fails (form.corresponds rule place)

pub three_inputs : (n : Net) (size : ℕ) (h : Net) (k : PlainCert) → HardenedForm n size h k → length h.inputs ≡ 3 * length n.inputs
three_inputs n size h k form = (form.corresponds 1 0).inputs refl refl

pub three_of_each : (n : Net) (size : ℕ) (h : Net) (k : PlainCert) → HardenedForm n size h k → length h.outputs ≡ 3 * length n.outputs
three_of_each n size h k form = three_outputs n h k (λ place. (form.corresponds 8 place).outputs refl)

pub ruleset checks = (form_fits, form_version, none_fails)

-- ---- the work

pub tried_text : (t : Trial) (n h : Net) (k : PlainCert) (minimal : Bool) (sums : CampaignSums) (text : List ℕ) → n ≡ design_of t.number t.nodes → HardenedForm n 64 h k → (IsTrue minimal ↔ IsMinimal n 64 (parts_of k)) → IsCampaign t.number 64 n h k sums
    → text ≡ trial_lines (form_numbers n 64 h k minimal) sums → IsTried t text
tried_text t n h k minimal sums text drawn form is_minimal runs says = record {
  hardened = h;
  certificate = k;
  form = subst (λ (m : Net). HardenedForm m 64 h k) drawn form;
  minimal = minimal;
  is_minimal = subst (λ (m : Net). IsTrue minimal ↔ IsMinimal m 64 (parts_of k)) drawn is_minimal;
  sums = sums;
  runs = subst (λ (m : Net). IsCampaign t.number 64 m h k sums) drawn runs;
  says = says ∙ ap (λ (m : Net). trial_lines (form_numbers m 64 h k minimal) sums) drawn;
}
