-- Failures that are found one after the other.
use Rattle.std.proofs.Common.{◌≡◌, ℕ, zero, suc, ◌+◌, ◌<◌, ◌≤◌, ◌⊎◌, inl, inr, Bool, List, [], ◌∷◌, ◌++◌, length, get_or, Some, slice_get, refl, sym, ap, ◌∙◌, subst, arith}
use Rattle.std.specs.Prelude.{All, AllPairs}
use Rattle.std.proofs.lemmas.List.{length_push, get_or_append_left}
use Rattle.std.proofs.lemmas.List.Elements.{All-nil, All-push}
use Rattle.std.proofs.lemmas.List.Quantifiers.{Any-push, all_pairs_push}
use Rattle.flat_net.specs.Net.{Net}
use Rattle.flat_net.proofs.Slots.{slot_within}
use Rattle.certificate.specs.declared.role.Role.{Role}
use Rattle.certificate.specs.Cert.{PlainCert, Fits, role_of}
use Rattle.certificate.specs.Rules.{Holds, FailsFirst}
use Rattle.explaining.specs.declared.rule.Rule.{Rule}
use Rattle.explaining.specs.declared.rule.Rule.TheVariants.{Inputs, Clocks, Tables, Registers, Voters, Labels, Depths, Outputs}
use Rattle.explaining.specs.declared.reason.Reason.{Reason}
use Rattle.explaining.specs.Reasons.{number, Explains}
use Rattle.explaining.specs.Explained.{Failure, IsBefore, Precedes, IsListed, AreAllFailures}
use Rattle.explaining.specs.Private.Found.{RuleHolds, place_count, AreFailuresBefore}
use Rattle.validator.proofs.OutputLaws.{rule_8_past}
use Rattle.explaining.proofs.Numbers.{number_same, number_low, number_high, numbered, holds_where, rule_holds}
use Rattle.explaining.proofs.Truth.{reason_true}

cases : (a b : ℕ) → (a < b) ⊎ (b ≤ a)
cases a b = grind arith

-- listed stays listed
listed_more : (fs : List Failure) (e : Failure) (r place : ℕ) → IsListed fs r place → IsListed (fs ++ e ∷ []) r place
listed_more fs e r place (i, x, l, is, at) = (i, x, omega (arith, l, length_push fs e), get_or_append_left fs (e ∷ []) x i l ∙ is, at)

module _ (n : Net) (f : List Bool) (h : Net) (g : List Bool) (k : PlainCert) where
  no_role : Fits n h k → (i : ℕ) (r : Role) → length h.nodes ≤ i → role_of k (length h.inputs + i) ≡ Some r → ⊥
  no_role fits i r past e =
      let within = slot_within k.hardened_inputs k.roles (length h.inputs + i) r e in
      let inputs : k.hardened_inputs ≡ length h.inputs = fits.hardened_inputs in
      let nodes : length k.roles ≡ length h.nodes = fits.hardened_nodes in
      omega (arith, within)

  -- past its places a rule holds
  past_holds : Fits n h k → (rule : Rule) (i : ℕ) → place_count n h rule ≤ i → RuleHolds n f h g k rule i
  past_holds fits Inputs i past = λ e. absurd (omega arith)
  past_holds fits Clocks i past = λ e. absurd (omega arith)
  past_holds fits Tables i past = λ x c p e part. absurd (no_role fits i _ past e)
  past_holds fits Registers i past = λ x c p e part. absurd (no_role fits i _ past e)
  past_holds fits Voters i past = λ x p c e. absurd (no_role fits i _ past e)
  past_holds fits Labels i past = λ x c e. absurd (no_role fits i _ past e)
  past_holds fits Depths i past = λ x c p e part. absurd (no_role fits i _ past e)
  past_holds fits Outputs i past = rule_8_past n h k i (omega arith) (omega arith)

  -- before rule 1 there is nothing
  pub none_found : AreFailuresBefore n f h g k 1 0 []
  none_found = record {
    complete = first;
    reasons = All-nil _;
    ordered = λ i j d lt l. absurd (omega arith);
    before = All-nil _;
    few = omega arith;
  }
    where
      first : (rule : Rule) (other : ℕ) → IsBefore (number rule) other 1 0 → RuleHolds n f h g k rule other ⊎ IsListed [] (number rule) other
      first rule other (inl lt) = absurd (omega (arith, number_low rule))
      first rule other (inr (e, lt)) = absurd (omega arith)

  -- a place at which the rule holds
  pub one_holds : (rule : Rule) (place : ℕ) (fs : List Failure) → RuleHolds n f h g k rule place → AreFailuresBefore n f h g k (number rule) place fs → AreFailuresBefore n f h g k (number rule) (place + 1) fs
  one_holds rule place fs is are = record {
    complete = next;
    reasons = are.reasons;
    ordered = are.ordered;
    before = λ i d l. later (are.before i d l);
    few = omega (arith, are.few);
  }
    where
      later : {q other : ℕ} → IsBefore q other (number rule) place → IsBefore q other (number rule) (place + 1)
      later (inl lt) = inl lt
      later (inr (e, lt)) = inr (e, omega arith)

      at : (other : Rule) (o : ℕ) → number other ≡ number rule → o < place + 1 → (o < place) ⊎ (place ≤ o) → RuleHolds n f h g k other o ⊎ IsListed fs (number other) o
      at other o e l (inl lt) = are.complete other o (inr (e, lt))
      at other o e l (inr le) =
          let same : place ≡ o = omega arith in
          let here : RuleHolds n f h g k rule o = subst (λ (m : ℕ). RuleHolds n f h g k rule m) same is in
          inl (subst (λ (r : Rule). RuleHolds n f h g k r o) (sym (number_same other rule e)) here)

      next : (other : Rule) (o : ℕ) → IsBefore (number other) o (number rule) (place + 1) → RuleHolds n f h g k other o ⊎ IsListed fs (number other) o
      next other o (inl lt) = are.complete other o (inl lt)
      next other o (inr (e, lt)) = at other o e lt (cases o place)

  -- a place at which it fails
  pub one_fails : (rule : Rule) (place : ℕ) (reason : Reason) (fs : List Failure) → Explains n f h g k rule place reason → AreFailuresBefore n f h g k (number rule) place fs → AreFailuresBefore n f h g k (number rule) (place + 1) (fs ++ record { rule = rule; place = place; reason = reason } ∷ [])
  one_fails rule place reason fs is are = record {
    complete = next;
    reasons = All-push (λ e. Explains n f h g k e.rule e.place e.reason) fs new are.reasons is;
    ordered = all_pairs_push Precedes fs new are.ordered (λ i d l. are.before i d l);
    before = All-push (λ e. IsBefore (number e.rule) e.place (number rule) (place + 1)) fs new (λ i d l. later (are.before i d l)) itself;
    few = omega (arith, are.few, length_push fs new);
  }
    where
      new : Failure
      new = record { rule = rule; place = place; reason = reason }

      itself : IsBefore (number rule) place (number rule) (place + 1)
      itself = inr (refl, omega arith)

      later : {q other : ℕ} → IsBefore q other (number rule) place → IsBefore q other (number rule) (place + 1)
      later (inl lt) = inl lt
      later (inr (e, lt)) = inr (e, omega arith)

      keep : (other : Rule) (o : ℕ) → RuleHolds n f h g k other o ⊎ IsListed fs (number other) o → RuleHolds n f h g k other o ⊎ IsListed (fs ++ new ∷ []) (number other) o
      keep other o (inl holds) = inl holds
      keep other o (inr listed) = inr (listed_more fs new (number other) o listed)

      at : (other : Rule) (o : ℕ) → number other ≡ number rule → o < place + 1 → (o < place) ⊎ (place ≤ o) → RuleHolds n f h g k other o ⊎ IsListed (fs ++ new ∷ []) (number other) o
      at other o e l (inl lt) = keep other o (are.complete other o (inr (e, lt)))
      at other o e l (inr le) = inr (Any-push (λ x. (number x.rule ≡ number other) × (x.place ≡ o)) fs new (sym e, omega arith))

      next : (other : Rule) (o : ℕ) → IsBefore (number other) o (number rule) (place + 1) → RuleHolds n f h g k other o ⊎ IsListed (fs ++ new ∷ []) (number other) o
      next other o (inl lt) = keep other o (are.complete other o (inl lt))
      next other o (inr (e, lt)) = at other o e lt (cases o place)

  -- all places of a rule
  pub rule_found : (rule : Rule) (place : ℕ) (fs : List Failure) → Fits n h k → place_count n h rule ≤ place → place ≤ 17179869184 → AreFailuresBefore n f h g k (number rule) place fs → AreFailuresBefore n f h g k (number rule + 1) 0 fs
  rule_found rule place fs fits past few are = record {
    complete = next;
    reasons = are.reasons;
    ordered = are.ordered;
    before = λ i d l. later (are.before i d l);
    few = omega (arith, are.few);
  }
    where
      later : {q other : ℕ} → IsBefore q other (number rule) place → IsBefore q other (number rule + 1) 0
      later (inl lt) = inl (omega arith)
      later (inr (e, lt)) = inl (omega arith)

      at : (other : Rule) (o : ℕ) → number other ≡ number rule → (o < place) ⊎ (place ≤ o) → RuleHolds n f h g k other o ⊎ IsListed fs (number other) o
      at other o e (inl lt) = are.complete other o (inr (e, lt))
      at other o e (inr le) =
          let same : rule ≡ other = sym (number_same other rule e) in
          inl (past_holds fits other o (subst (λ (r : Rule). place_count n h r ≤ o) same (omega arith)))

      by_number : (other : Rule) (o : ℕ) → (number other < number rule) ⊎ (number rule ≤ number other) → number other < number rule + 1 → RuleHolds n f h g k other o ⊎ IsListed fs (number other) o
      by_number other o (inl lt) l = are.complete other o (inl lt)
      by_number other o (inr le) l = at other o (omega arith) (cases o place)

      next : (other : Rule) (o : ℕ) → IsBefore (number other) o (number rule + 1) 0 → RuleHolds n f h g k other o ⊎ IsListed fs (number other) o
      next other o (inl lt) = by_number other o (cases (number other) (number rule)) lt
      next other o (inr (e, lt)) = absurd (omega arith)

  all_complete : (fs : List Failure) → AreFailuresBefore n f h g k 9 0 fs → (r place : ℕ) → Holds n f h g k r place ⊎ IsListed fs r place
  all_complete fs are r place = go (numbered r)
    where
      told : (rule : Rule) → number rule ≡ r → RuleHolds n f h g k rule place ⊎ IsListed fs (number rule) place → Holds n f h g k r place ⊎ IsListed fs r place
      told rule e (inl is) = inl (subst (λ (m : ℕ). Holds n f h g k m place) e (rule_holds n f h g k rule place is))
      told rule e (inr listed) = inr (subst (λ (m : ℕ). IsListed fs m place) e listed)

      go : ((rule : Rule) × (number rule ≡ r)) ⊎ ((rule : Rule) → number rule ≡ r → ⊥) → Holds n f h g k r place ⊎ IsListed fs r place
      go (inl (rule, e)) = told rule e (are.complete rule place (inl (omega (arith, number_high rule))))
      go (inr none) = inl (holds_where n f h g k r place (λ rule e. absurd (none rule e)))

  -- nothing that is listed stands before the first
  none_before : (fs : List Failure) (e : Failure) → AllPairs Precedes fs → slice_get fs 0 ≡ Some e → (q other : ℕ) → IsListed fs q other → IsBefore q other (number e.rule) e.place → ⊥
  none_before [] e ordered is q other (i, x, l, at, same) before = omega (arith, l)
  none_before (a ∷ fs) e ordered is q other (zero, x, l, at, same) before =
      let first : a ≡ e = cc is in
      let here : e ≡ x = sym first ∙ at in
      let number_is : number e.rule ≡ q = ap (λ (u : Failure). number u.rule) here ∙ same.0 in
      let place_is : e.place ≡ other = ap (λ (u : Failure). u.place) here ∙ same.1 in
      itself number_is place_is before
    where
      itself : number e.rule ≡ q → e.place ≡ other → IsBefore q other (number e.rule) e.place → ⊥
      itself u v (inl lt) = omega arith
      itself u v (inr (w, lt)) = omega arith
  none_before (a ∷ fs) e ordered is q other (suc i, x, l, at, same) before =
      let first : a ≡ e = cc is in
      let after : Precedes a x = subst (λ (u : Failure). Precedes a u) at (ordered 0 (suc i) x (omega arith) l) in
      let later : Precedes e x = subst (λ (u : Failure). Precedes u x) first after in
      both (same.0) (same.1) later before
    where
      both : number x.rule ≡ q → x.place ≡ other → Precedes e x → IsBefore q other (number e.rule) e.place → ⊥
      both u v (inl lt) (inl lt') = omega arith
      both u v (inl lt) (inr (w, lt')) = omega arith
      both u v (inr (z, lt)) (inl lt') = omega arith
      both u v (inr (z, lt)) (inr (w, lt')) = omega arith

  pub all_found : (fs : List Failure) → AreFailuresBefore n f h g k 9 0 fs → AreAllFailures n f h g k fs
  all_found fs are = record {
    complete = complete;
    fails = fails;
    reasons = are.reasons;
    ordered = are.ordered;
    first = first;
  }
    where
      complete : (r place : ℕ) → Holds n f h g k r place ⊎ IsListed fs r place
      complete = all_complete fs are

      fails : All (λ e. Holds n f h g k (number e.rule) e.place → ⊥) fs
      fails i d l = reason_true n f h g k (get_or fs i d).rule (get_or fs i d).place (get_or fs i d).reason (are.reasons i d l)

      holds_before : (e : Failure) → slice_get fs 0 ≡ Some e → (q other : ℕ) → IsBefore q other (number e.rule) e.place → Holds n f h g k q other ⊎ IsListed fs q other → Holds n f h g k q other
      holds_before e is q other before (inl holds) = holds
      holds_before e is q other before (inr listed) = absurd (none_before fs e are.ordered is q other listed before)

      first_fails : (xs : List Failure) (e : Failure) → All (λ e. Holds n f h g k (number e.rule) e.place → ⊥) xs → slice_get xs 0 ≡ Some e → Holds n f h g k (number e.rule) e.place → ⊥
      first_fails [] e all is = absurd (cc is)
      first_fails (a ∷ xs) e all is = let same : a ≡ e = cc is in subst (λ (u : Failure). Holds n f h g k (number u.rule) u.place → ⊥) same (all 0 a (omega arith))

      first : (e : Failure) → slice_get fs 0 ≡ Some e → FailsFirst n f h g k (number e.rule) e.place
      first e is = record {
        fails = first_fails fs e fails is;
        rules_before = λ q other lt. holds_before e is q other (inl lt) (complete q other);
        places_before = λ other lt. holds_before e is (number e.rule) other (inr (refl, lt)) (complete (number e.rule) other);
      }
