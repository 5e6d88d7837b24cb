-- One element among others that are bare.
use Rattle.std.proofs.Common.{◌≡◌, ◌≢◌, ℕ, ◌+◌, ◌<◌, ◌≤◌, ◌⊎◌, Bool, true, false, List, length, subst, inl, inr, arith, Option, Some, None}
use Rattle.std.specs.Prelude.{slice_index_or}
use Rattle.std.specs.Option.{is_some}
use Rattle.std.proofs.lemmas.Bool.{cases_lt}
use Rattle.blif_text.specs.Models.{PlainElement}
use Rattle.wrapper_chains.specs.Bare.{is_bare_element}
use Rattle.library_faults.specs.Private.Models.{no_element}
use Rattle.wrapper_chains.specs.Private.Ways.{IsOnly}

-- of the first elements, all or all but one are bare
abbrev pub IsOnlyBefore : List (List ℕ) → List Bool → List PlainElement → ℕ → Option ℕ → Type 0
IsOnlyBefore names holds es n None = (k : ℕ) → k < n → is_bare_element names holds (slice_index_or es k no_element) ≡ true
IsOnlyBefore names holds es n (Some i) = (i < n) × ((k : ℕ) → k < n → k ≢ i → is_bare_element names holds (slice_index_or es k no_element) ≡ true)

module _ (names : List (List ℕ)) (holds : List Bool) (es : List PlainElement) (n : ℕ) where
  pub bare_more : (o : Option ℕ) → IsOnlyBefore names holds es n o → is_bare_element names holds (slice_index_or es n no_element) ≡ true → IsOnlyBefore names holds es (n + 1) o
  bare_more None before bare = λ k below. still k below
    where
      still : (k : ℕ) → k < n + 1 → is_bare_element names holds (slice_index_or es k no_element) ≡ true
      still k below = go (cases_lt k n)
        where
          go : (k < n) ⊎ (n ≤ k) → is_bare_element names holds (slice_index_or es k no_element) ≡ true
          go (inl l) = before k l
          go (inr l) = let same : n ≡ k = omega arith in subst (λ v. is_bare_element names holds (slice_index_or es v no_element) ≡ true) same bare
  bare_more (Some i) before bare = ((let b = before.0 in omega arith), others)
    where
      others : (k : ℕ) → k < n + 1 → k ≢ i → is_bare_element names holds (slice_index_or es k no_element) ≡ true
      others k below ne = go (cases_lt k n)
        where
          go : (k < n) ⊎ (n ≤ k) → is_bare_element names holds (slice_index_or es k no_element) ≡ true
          go (inl l) = before.1 k l ne
          go (inr l) = let same : n ≡ k = omega arith in subst (λ v. is_bare_element names holds (slice_index_or es v no_element) ≡ true) same bare

  pub first_filled : (o : Option ℕ) → is_some o ≡ false → IsOnlyBefore names holds es n o → IsOnlyBefore names holds es (n + 1) (Some n)
  first_filled None none before = (omega arith, λ k below ne. before k (omega arith))
  first_filled (Some i) none before = absurd cc

pub is_only : (names : List (List ℕ)) (holds : List Bool) (es : List PlainElement) (n i : ℕ) → length es ≤ n → n ≤ length es → IsOnlyBefore names holds es n (Some i) → IsOnly names holds es i
is_only names holds es n i low high before = record { within = (let b = before.0 in omega arith); others = λ k below ne. before.1 k (omega arith) ne }
