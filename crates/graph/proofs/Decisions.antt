-- One more decision: which reads are cut, and which are kept.
use Rattle.std.proofs.Common.{◌≡◌, ◌≢◌, ℕ, ◌+◌, ◌<◌, ◌≤◌, ◌⊎◌, Bool, true, false, List, [], ◌∷◌, ◌++◌, length, get_or, set, sym, ◌∙◌, ap, subst, inl, inr, arith}
use Rattle.std.proofs.lemmas.List.{get_or-set_same, get_or-set_other, get_or_append_left, get_or_push, get_or_past, length_push}
use Rattle.std.proofs.lemmas.Bool.{cases_eq, cases_lt}
use Rattle.graph.specs.Rows.{row}
use Rattle.graph.specs.Search.{is_cut, Kept}

-- the decisions with one more of x
abbrev pub decided : List (List Bool) → ℕ → Bool → List (List Bool)
decided cut x v = set cut x (row cut x ++ v ∷ [])

pub no_absurd : true ≢ false
no_absurd e = cc

-- an entry of a longer list of decisions
bit_cases : (bits : List Bool) (v : Bool) (i : ℕ) → ((i < length bits) × (get_or (bits ++ v ∷ []) i false ≡ get_or bits i false)) ⊎ (((i ≡ length bits) × (get_or (bits ++ v ∷ []) i false ≡ v)) ⊎ ((length bits < i) × (get_or (bits ++ v ∷ []) i false ≡ false)))
bit_cases bits v i = go (cases_lt i (length bits)) (cases_eq i (length bits))
  where
    go : (i < length bits) ⊎ (length bits ≤ i) → (i ≡ length bits) ⊎ (i ≡ length bits → ⊥) → ((i < length bits) × (get_or (bits ++ v ∷ []) i false ≡ get_or bits i false)) ⊎ (((i ≡ length bits) × (get_or (bits ++ v ∷ []) i false ≡ v)) ⊎ ((length bits < i) × (get_or (bits ++ v ∷ []) i false ≡ false)))
    go (inl l) e = inl (l, get_or_append_left bits (v ∷ []) false i l)
    go (inr l) (inl e) = inr (inl (e, get_or_push bits v false i (sym e)))
    go (inr l) (inr ne) = inr (inr (omega arith, get_or_past (bits ++ v ∷ []) i false (omega (arith, length_push bits v))))

module _ (rows : List (List ℕ)) (cut : List (List Bool)) (x : ℕ) (v : Bool) (within : x < length cut) where
  pub row_same : row (decided cut x v) x ≡ row cut x ++ v ∷ []
  row_same = get_or-set_same cut x (row cut x ++ v ∷ []) [] within

  pub row_other : (z : ℕ) → z ≢ x → row (decided cut x v) z ≡ row cut z
  row_other z ne = get_or-set_other cut x z (row cut x ++ v ∷ []) [] ne

  pub long_same : length (row (decided cut x v) x) ≡ length (row cut x) + 1
  long_same = ap length row_same ∙ length_push (row cut x) v

  -- what was kept is kept
  pub kept_stays : (a b : ℕ) → Kept rows cut a b → Kept rows (decided cut x v) a b
  kept_stays a b k = go (cases_eq b x)
    where
      go : (b ≡ x) ⊎ (b ≡ x → ⊥) → Kept rows (decided cut x v) a b
      go (inl e) =
          let r : row (decided cut x v) b ≡ row cut b ++ v ∷ [] = subst (λ z. row (decided cut x v) z ≡ row cut z ++ v ∷ []) (sym e) row_same in
          record {
            place = k.place;
            within = let l : length (row (decided cut x v) b) ≡ length (row cut b) + 1 = ap length r ∙ length_push (row cut b) v in omega (arith, l, k.within);
            uncut = ap (λ bits. get_or bits k.place false) r ∙ (get_or_append_left (row cut b) (v ∷ []) false k.place k.within ∙ k.uncut);
            is = k.is;
            vertex = k.vertex;
          }
      go (inr ne) =
          let r : row (decided cut x v) b ≡ row cut b = row_other b ne in
          record {
            place = k.place;
            within = subst (λ bits. k.place < length bits) (sym r) k.within;
            uncut = ap (λ bits. get_or bits k.place false) r ∙ k.uncut;
            is = k.is;
            vertex = k.vertex;
          }

  -- what is kept now was kept, or is the new decision
  pub kept_cases : (a b : ℕ) → Kept rows (decided cut x v) a b → Kept rows cut a b ⊎ ((b ≡ x) × (v ≡ false) × (get_or (row rows x) (length (row cut x)) 0 ≡ a) × (a < length rows))
  kept_cases a b k = go (cases_eq b x)
    where
      go : (b ≡ x) ⊎ (b ≡ x → ⊥) → Kept rows cut a b ⊎ ((b ≡ x) × (v ≡ false) × (get_or (row rows x) (length (row cut x)) 0 ≡ a) × (a < length rows))
      go (inr ne) =
          let r : row (decided cut x v) b ≡ row cut b = row_other b ne in
          inl (record {
            place = k.place;
            within = subst (λ bits. k.place < length bits) r k.within;
            uncut = ap (λ bits. get_or bits k.place false) (sym r) ∙ k.uncut;
            is = k.is;
            vertex = k.vertex;
          })
      go (inl e) = which (bit_cases (row cut b) v k.place)
        where
          r : row (decided cut x v) b ≡ row cut b ++ v ∷ []
          r = subst (λ z. row (decided cut x v) z ≡ row cut z ++ v ∷ []) (sym e) row_same

          uncut : get_or (row cut b ++ v ∷ []) k.place false ≡ false
          uncut = ap (λ bits. get_or bits k.place false) (sym r) ∙ k.uncut

          which : ((k.place < length (row cut b)) × (get_or (row cut b ++ v ∷ []) k.place false ≡ get_or (row cut b) k.place false)) ⊎ (((k.place ≡ length (row cut b)) × (get_or (row cut b ++ v ∷ []) k.place false ≡ v)) ⊎ ((length (row cut b) < k.place) × (get_or (row cut b ++ v ∷ []) k.place false ≡ false))) → Kept rows cut a b ⊎ ((b ≡ x) × (v ≡ false) × (get_or (row rows x) (length (row cut x)) 0 ≡ a) × (a < length rows))
          which (inl i) = inl (record { place = k.place; within = i.0; uncut = sym i.1 ∙ uncut; is = k.is; vertex = k.vertex })
          which (inr (inl i)) = inr (e, sym i.1 ∙ uncut, ap (λ p. get_or (row rows x) p 0) (sym (i.0 ∙ ap (λ z. length (row cut z)) e)) ∙ (ap (λ z. get_or (row rows z) k.place 0) (sym e) ∙ k.is), k.vertex)
          which (inr (inr i)) = absurd (let l : length (row (decided cut x v) b) ≡ length (row cut b) + 1 = ap length r ∙ length_push (row cut b) v in omega (arith, l, k.within, i.0))

  -- what is cut now was cut, or is the new decision
  pub cut_cases : (b i : ℕ) → is_cut (decided cut x v) b i ≡ true → (is_cut cut b i ≡ true) ⊎ ((b ≡ x) × (i ≡ length (row cut x)) × (v ≡ true))
  cut_cases b i h = go (cases_eq b x)
    where
      go : (b ≡ x) ⊎ (b ≡ x → ⊥) → (is_cut cut b i ≡ true) ⊎ ((b ≡ x) × (i ≡ length (row cut x)) × (v ≡ true))
      go (inr ne) = inl (ap (λ bits. get_or bits i false) (sym (row_other b ne)) ∙ h)
      go (inl e) = which (bit_cases (row cut b) v i)
        where
          r : row (decided cut x v) b ≡ row cut b ++ v ∷ []
          r = subst (λ z. row (decided cut x v) z ≡ row cut z ++ v ∷ []) (sym e) row_same

          is : get_or (row cut b ++ v ∷ []) i false ≡ true
          is = ap (λ bits. get_or bits i false) (sym r) ∙ h

          which : ((i < length (row cut b)) × (get_or (row cut b ++ v ∷ []) i false ≡ get_or (row cut b) i false)) ⊎ (((i ≡ length (row cut b)) × (get_or (row cut b ++ v ∷ []) i false ≡ v)) ⊎ ((length (row cut b) < i) × (get_or (row cut b ++ v ∷ []) i false ≡ false))) → (is_cut cut b i ≡ true) ⊎ ((b ≡ x) × (i ≡ length (row cut x)) × (v ≡ true))
          which (inl j) = inl (sym j.1 ∙ is)
          which (inr (inl j)) = inr (e, j.0 ∙ ap (λ z. length (row cut z)) e, sym j.1 ∙ is)
          which (inr (inr j)) = absurd (no_absurd (sym is ∙ j.1))
