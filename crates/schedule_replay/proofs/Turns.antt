-- Lists whose elements are replaced one after the other.
use Rattle.std.proofs.Common.{◌≡◌, ◌≢◌, ℕ, zero, suc, ◌+◌, ◌<◌, ◌≤◌, ◌⊎◌, inl, inr, List, [], ◌∷◌, length, get_or, slice_get, slice_set, Some, refl, sym, ◌∙◌, ap, subst, arith}
use Rattle.std.proofs.lemmas.List.{length-set, get_or-set_same}
use Rattle.std.proofs.lemmas.Option.{slice_get-get_or, slice_get_within, get_or_from_slice_get}
use Rattle.std.specs.Prelude.{All}
use Rattle.schedule_replay.proofs.RunWords.{equal_or_not}

replaced_here : {A : Type 0} (xs : List A) (j : ℕ) (w : A) → j < length xs → slice_get (slice_set xs j w) j ≡ Some w
replaced_here xs j w l = slice_get-get_or (slice_set xs j w) j w (omega (arith, length-set xs j w)) ∙ ap Some (get_or-set_same xs j w w l)

replaced_elsewhere : {A : Type 0} (xs : List A) (i j : ℕ) (w : A) → i ≢ j → slice_get (slice_set xs j w) i ≡ slice_get xs i
replaced_elsewhere [] i j w apart = refl
replaced_elsewhere (x ∷ xs) zero zero w apart = absurd (apart refl)
replaced_elsewhere (x ∷ xs) zero (suc j) w apart = refl
replaced_elsewhere (x ∷ xs) (suc i) zero w apart = refl
replaced_elsewhere (x ∷ xs) (suc i) (suc j) w apart = replaced_elsewhere xs i j w (λ e. apart (ap suc e))

module _ {A : Type 0} (R : ℕ → A → A → Type 0) (start xs : List A) (j : ℕ) (v w : A) where
  -- element j is replaced
  pub done_more : j < length xs → v ≡ get_or xs j v → ((i : ℕ) (a b : A) → i < j → slice_get start i ≡ Some a → slice_get xs i ≡ Some b → R i a b) → ((i : ℕ) → j ≤ i → slice_get xs i ≡ slice_get start i) → R j v w
      → (i : ℕ) (a b : A) → i < j + 1 → slice_get start i ≡ Some a → slice_get (slice_set xs j w) i ≡ Some b → R i a b
  done_more within here done rest is i a b l at_a at_b = go (equal_or_not i j)
    where
      go : (i ≡ j) ⊎ (i ≢ j) → R i a b
      go (inl e) =
          let now : slice_get (slice_set xs j w) i ≡ Some w = subst (λ (k : ℕ). slice_get (slice_set xs j w) k ≡ Some w) (sym e) (replaced_here xs j w within) in
          let was : slice_get start i ≡ Some v = subst (λ (k : ℕ). slice_get start k ≡ Some v) (sym e) (sym (rest j (omega arith)) ∙ (slice_get-get_or xs j v within ∙ ap Some (sym here))) in
          let same_a : v ≡ a = cc in
          let same_b : w ≡ b = cc in
          subst (λ (x : A). R i x b) same_a (subst (λ (y : A). R i v y) same_b (subst (λ (k : ℕ). R k v w) (sym e) is))
      go (inr apart) = done i a b (omega arith) at_a (sym (replaced_elsewhere xs i j w apart) ∙ at_b)

  -- and those behind it are as they were
  pub rest_more : ((i : ℕ) → j ≤ i → slice_get xs i ≡ slice_get start i) → (i : ℕ) → j + 1 ≤ i → slice_get (slice_set xs j w) i ≡ slice_get start i
  rest_more rest i l = replaced_elsewhere xs i j w (omega arith) ∙ rest i (omega arith)

-- what is at a place of a list
pub at_place : {A : Type 0} (P : A → Type 0) (xs : List A) (j : ℕ) (x : A) → All P xs → slice_get xs j ≡ Some x → P x
at_place P xs j x all at = subst P (get_or_from_slice_get xs j x x at) (all j x (slice_get_within xs j x at))
