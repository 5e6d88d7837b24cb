-- Failures that are told one after the other.
use Rattle.std.proofs.Common.{◌≡◌, ℕ, ◌+◌, ◌-◌, ◌<◌, ◌≤◌, Bool, List, [], ◌∷◌, ◌++◌, ◌∙◌, arith}
use Rattle.std.proofs.lemmas.List.{length_push}
use Rattle.flat_net.specs.Net.{Net}
use Rattle.certificate.specs.Cert.{PlainCert, Fits}
use Rattle.explaining.specs.declared.rule.Rule.{Rule}
use Rattle.explaining.specs.declared.reason.Reason.{Reason}
use Rattle.explaining.specs.declared.telling.Told.{Told}
use Rattle.explaining.specs.Reasons.{number, Explains}
use Rattle.explaining.specs.Explained.{failure_line, more_line, IsExplanation}
use Rattle.explaining.specs.Private.Found.{RuleHolds, place_count, shown, IsToldBefore}
use Rattle.explaining.proofs.Numbers.{number_high}
use Rattle.explaining.proofs.Shown.{next_shown}
use Rattle.explaining.proofs.Found.{none_found, one_holds, one_fails, rule_found, all_found}

module _ (n : Net) (f : List Bool) (h : Net) (g : List Bool) (k : PlainCert) where
  pub nothing_told : (told : Told) → told.text.items ≡ [] → told.count ≡ 0 → IsToldBefore n f h g k 1 0 told
  nothing_told told empty none = record { failures = []; are = none_found n f h g k; text = empty; count = none }

  pub holds_told : (rule : Rule) (place : ℕ) (told : Told) → RuleHolds n f h g k rule place → IsToldBefore n f h g k (number rule) place told → IsToldBefore n f h g k (number rule) (place + 1) told
  holds_told rule place told is before = record { failures = before.failures; are = one_holds n f h g k rule place before.failures is before.are; text = before.text; count = before.count }

  pub failure_told : (rule : Rule) (place : ℕ) (reason : Reason) (old new : Told) → Explains n f h g k rule place reason → IsToldBefore n f h g k (number rule) place old → new.text.items ≡ old.text.items ++ shown old.count (failure_line n h k (record { rule = rule; place = place; reason = reason })) → new.count ≡ old.count + 1 → IsToldBefore n f h g k (number rule) (place + 1) new
  failure_told rule place reason old new is before put count = record {
    failures = before.failures ++ record { rule = rule; place = place; reason = reason } ∷ [];
    are = one_fails n f h g k rule place reason before.failures is before.are;
    text = next_shown (failure_line n h k) before.failures (record { rule = rule; place = place; reason = reason }) old.text.items new.text.items old.count before.text before.count put;
    count = omega (arith, count, before.count, length_push before.failures (record { rule = rule; place = place; reason = reason }));
  }

  pub rule_told : (rule : Rule) (place : ℕ) (told : Told) → Fits n h k → place_count n h rule ≤ place → place ≤ 17179869184 → IsToldBefore n f h g k (number rule) place told → IsToldBefore n f h g k (number rule + 1) 0 told
  rule_told rule place told fits past few before = record { failures = before.failures; are = rule_found n f h g k rule place before.failures fits past few before.are; text = before.text; count = before.count }

  -- how many there can be
  pub few_told : (rule : Rule) (place : ℕ) (told : Told) → place < 17179869184 → IsToldBefore n f h g k (number rule) place told → told.count < 171798691840
  few_told rule place told few before = omega (arith, before.count, before.are.few, number_high rule)

  pub all_told : (told : Told) (text : List ℕ) → IsToldBefore n f h g k 9 0 told → text ≡ told.text.items ++ more_line (told.count - 100) → IsExplanation n f h g k text
  all_told told text before put = record {
    failures = before.failures;
    all = all_found n f h g k before.failures before.are;
    text_is = put ∙ (λ i. before.text i ++ more_line (before.count i - 100));
  }
