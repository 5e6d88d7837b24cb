-- One entry more of a draft.
use Rattle.std.proofs.Common.{◌≡◌, ℕ, suc, ◌+◌, ◌<◌, ◌≤◌, List, [], ◌∷◌, ◌++◌, length, drop, get_or, sym, ap, ◌∙◌, arith, append_assoc, drop-cons}
use Rattle.std.proofs.lemmas.List.{append-nil, nil_from_length, length-drop}
use Rattle.flat_net.specs.Draft.{PlainDraft, Element}
use Rattle.aag_design.specs.Draft.{map_from}

module _ {A B : Type 0} (f : ℕ → A → B) (xs : List A) where
  from_here : (i : ℕ) (d : A) → i < length xs → map_from f i (drop i xs) ≡ f i (get_or xs i d) ∷ map_from f (i + 1) (drop (i + 1) xs)
  from_here i d l =
      let q : suc i ≡ i + 1 = omega arith in
      ap (map_from f i) (drop-cons xs i d l ∙ ap (λ (k : ℕ). get_or xs i d ∷ drop k xs) q)

  pub one_more : (i : ℕ) (d : A) (out : List B) → i < length xs → (out ++ f i (get_or xs i d) ∷ []) ++ map_from f (i + 1) (drop (i + 1) xs) ≡ out ++ map_from f i (drop i xs)
  one_more i d out l = append_assoc out (f i (get_or xs i d) ∷ []) (map_from f (i + 1) (drop (i + 1) xs)) ∙ ap (λ (ys : List B). out ++ ys) (sym (from_here i d l))

  pub no_more : (i : ℕ) (out : List B) → length xs ≤ i → out ++ map_from f i (drop i xs) ≡ out
  no_more i out l =
      let none : drop i xs ≡ [] = nil_from_length (drop i xs) (omega (arith, length-drop i xs)) in
      ap (λ (ys : List A). out ++ map_from f i ys) none ∙ append-nil out

-- ---- drafts

pub elements_more : {A : Type 0} (f : ℕ → A → Element) (xs : List A) (i : ℕ) (x : A) (old new total : PlainDraft) → i < length xs → x ≡ get_or xs i x → new ≡ record old { elements = old.elements ++ f i x ∷ [] }
    → record old { elements = old.elements ++ map_from f i (drop i xs) } ≡ total → record new { elements = new.elements ++ map_from f (i + 1) (drop (i + 1) xs) } ≡ total
elements_more f xs i x old new total l is e so_far =
    ap (λ (d : PlainDraft). record d { elements = d.elements ++ map_from f (i + 1) (drop (i + 1) xs) }) (e ∙ ap (λ z. record old { elements = old.elements ++ f i z ∷ [] }) is)
    ∙ (ap (λ (es : List Element). record old { elements = es }) (one_more f xs i x old.elements l) ∙ so_far)

pub elements_end : {A : Type 0} (f : ℕ → A → Element) (xs : List A) (i : ℕ) (old total : PlainDraft) → length xs ≤ i → record old { elements = old.elements ++ map_from f i (drop i xs) } ≡ total → old ≡ total
elements_end f xs i old total l so_far = sym (ap (λ (es : List Element). record old { elements = es }) (no_more f xs i old.elements l)) ∙ so_far

pub inputs_more : {A : Type 0} (f : ℕ → A → List ℕ) (xs : List A) (i : ℕ) (x : A) (old new total : PlainDraft) → i < length xs → x ≡ get_or xs i x → new ≡ record old { inputs = old.inputs ++ f i x ∷ [] }
    → record old { inputs = old.inputs ++ map_from f i (drop i xs) } ≡ total → record new { inputs = new.inputs ++ map_from f (i + 1) (drop (i + 1) xs) } ≡ total
inputs_more f xs i x old new total l is e so_far =
    ap (λ (d : PlainDraft). record d { inputs = d.inputs ++ map_from f (i + 1) (drop (i + 1) xs) }) (e ∙ ap (λ z. record old { inputs = old.inputs ++ f i z ∷ [] }) is)
    ∙ (ap (λ (es : List (List ℕ)). record old { inputs = es }) (one_more f xs i x old.inputs l) ∙ so_far)

pub inputs_end : {A : Type 0} (f : ℕ → A → List ℕ) (xs : List A) (i : ℕ) (old total : PlainDraft) → length xs ≤ i → record old { inputs = old.inputs ++ map_from f i (drop i xs) } ≡ total → old ≡ total
inputs_end f xs i old total l so_far = sym (ap (λ (es : List (List ℕ)). record old { inputs = es }) (no_more f xs i old.inputs l)) ∙ so_far

pub outputs_more : {A : Type 0} (f : ℕ → A → List ℕ) (xs : List A) (i : ℕ) (x : A) (old new total : PlainDraft) → i < length xs → x ≡ get_or xs i x → new ≡ record old { outputs = old.outputs ++ f i x ∷ [] }
    → record old { outputs = old.outputs ++ map_from f i (drop i xs) } ≡ total → record new { outputs = new.outputs ++ map_from f (i + 1) (drop (i + 1) xs) } ≡ total
outputs_more f xs i x old new total l is e so_far =
    ap (λ (d : PlainDraft). record d { outputs = d.outputs ++ map_from f (i + 1) (drop (i + 1) xs) }) (e ∙ ap (λ z. record old { outputs = old.outputs ++ f i z ∷ [] }) is)
    ∙ (ap (λ (es : List (List ℕ)). record old { outputs = es }) (one_more f xs i x old.outputs l) ∙ so_far)

pub outputs_end : {A : Type 0} (f : ℕ → A → List ℕ) (xs : List A) (i : ℕ) (old total : PlainDraft) → length xs ≤ i → record old { outputs = old.outputs ++ map_from f i (drop i xs) } ≡ total → old ≡ total
outputs_end f xs i old total l so_far = sym (ap (λ (es : List (List ℕ)). record old { outputs = es }) (no_more f xs i old.outputs l)) ∙ so_far

-- two pieces of elements, one behind the other
pub elements_join : (old mid new : PlainDraft) (xs ys : List Element) → mid ≡ record old { elements = old.elements ++ xs } → new ≡ record mid { elements = mid.elements ++ ys } → new ≡ record old { elements = old.elements ++ (xs ++ ys) }
elements_join old mid new xs ys e f =
    f ∙ (ap (λ (d : PlainDraft). record d { elements = d.elements ++ ys }) e ∙ ap (λ (es : List Element). record old { elements = es }) (append_assoc old.elements xs ys))
