-- One vertex more is looked at for the ends of longest chains.
use Rattle.std.proofs.Common.{◌≡◌, ◌≢◌, ℕ, ◌+◌, ◌<◌, ◌⊎◌, Bool, List, sym, ◌∙◌, ap, inl, inr, arith}
use Rattle.std.specs.Prelude.{slice_index, slice_set}
use Rattle.std.proofs.lemmas.Bool.{cases_eq}
use Rattle.std.proofs.lemmas.List.{get_or-set_same, get_or-set_other, length-set}
use Rattle.tmr_base.specs.Parts.{PlainParts}
use Rattle.recovery_depth.specs.Private.LastRegisters.{number_at, last_of, IsOneOf}
use Rattle.recovery_depth.specs.Private.ChainEnds.{AreChainEnds}
use Rattle.recovery_depth.proofs.LastRegisterLaws.{later}

-- vertex k is of partition p, and `new` is the end that is kept for p then
module _ (parts : PlainParts) (reaches depths : List ℕ) (bits : List Bool) (before : List ℕ) (none k p new : ℕ) (ends : List ℕ)
    (is : AreChainEnds parts reaches depths bits before none k ends) (place : p ≡ slice_index parts.of k) (below : p < parts.count)
    (other : number_at reaches k ≡ number_at depths p → IsOneOf none (number_at ends p) (last_of bits before k) new)
    (same : number_at reaches k ≢ number_at depths p → new ≡ number_at ends p) where
  abbrev HasEnd : ℕ → ℕ → ℕ → Type 0
  HasEnd count q end = (g : ℕ) × (g < count) × (slice_index parts.of g ≡ q) × (number_at reaches g ≡ number_at depths q) × (last_of bits before g ≡ end)

  here : number_at (slice_set ends p new) p ≡ new
  here = get_or-set_same ends p new 0 (omega (arith, is.long, below))

  there : (q : ℕ) → q ≢ p → number_at (slice_set ends p new) q ≡ number_at ends q
  there q apart = get_or-set_other ends p q new 0 apart

  wider : (q end : ℕ) → HasEnd k q end → HasEnd (k + 1) q end
  wider q end (g, l, at, reach, last) = (g, omega (arith, l), at, reach, last)

  kept : new ≡ number_at ends p → new ≢ none → HasEnd (k + 1) p new
  kept e some = rw e (wider p (number_at ends p) (is.some p below (λ z. some (e ∙ z))))

  of_place : new ≢ none → HasEnd (k + 1) p new
  of_place some = go (cases_eq (number_at reaches k) (number_at depths p))
    where
      one : number_at reaches k ≡ number_at depths p → (new ≡ number_at ends p) ⊎ (new ≡ last_of bits before k) → HasEnd (k + 1) p new
      one reach (inl e) = kept e some
      one reach (inr e) = (k, omega arith, sym place, reach, sym e)

      go : (number_at reaches k ≡ number_at depths p) ⊎ (number_at reaches k ≢ number_at depths p) → HasEnd (k + 1) p new
      go (inl reach) = one reach (other reach).one
      go (inr apart) = kept (same apart) some

  keeps : number_at ends p ≢ none → new ≢ none
  keeps some = go (cases_eq (number_at reaches k) (number_at depths p))
    where
      go : (number_at reaches k ≡ number_at depths p) ⊎ (number_at reaches k ≢ number_at depths p) → new ≢ none
      go (inl reach) = (other reach).keeps some
      go (inr apart) = λ e. some (sym (same apart) ∙ e)

  some_end : (q : ℕ) → q < parts.count → number_at (slice_set ends p new) q ≢ none → HasEnd (k + 1) q (number_at (slice_set ends p new) q)
  some_end q l some = go (cases_eq q p)
    where
      go : (q ≡ p) ⊎ (q ≢ p) → HasEnd (k + 1) q (number_at (slice_set ends p new) q)
      go (inl e) = rw (e, here) (of_place (λ z. some (ap (number_at (slice_set ends p new)) e ∙ (here ∙ z))))
      go (inr apart) = rw (there q apart) (wider q (number_at ends q) (is.some q l (λ z. some (there q apart ∙ z))))

  all_ends : (g : ℕ) → g < k + 1 → number_at reaches g ≡ number_at depths (slice_index parts.of g) → last_of bits before g ≢ none → number_at (slice_set ends p new) (slice_index parts.of g) ≢ none
  all_ends g l reach last = go (cases_eq (slice_index parts.of g) p) (later g k l)
    where
      go : (slice_index parts.of g ≡ p) ⊎ (slice_index parts.of g ≢ p) → (g ≡ k) ⊎ (g < k) → number_at (slice_set ends p new) (slice_index parts.of g) ≢ none
      go (inl e) (inl now) = λ z. (other (ap (number_at reaches) (sym now) ∙ (reach ∙ ap (number_at depths) e))).gains (λ y. last (ap (last_of bits before) now ∙ y)) (sym here ∙ (ap (number_at (slice_set ends p new)) (sym e) ∙ z))
      go (inl e) (inr less) = λ z. keeps (λ y. is.all g less reach last (ap (number_at ends) e ∙ y)) (sym here ∙ (ap (number_at (slice_set ends p new)) (sym e) ∙ z))
      go (inr apart) (inl now) = absurd (apart (ap (slice_index parts.of) now ∙ sym place))
      go (inr apart) (inr less) = λ z. is.all g less reach last (sym (there (slice_index parts.of g) apart) ∙ z)

  pub one_end : AreChainEnds parts reaches depths bits before none (k + 1) (slice_set ends p new)
  one_end = record { long = length-set ends p new ∙ is.long; some = some_end; all = all_ends }
