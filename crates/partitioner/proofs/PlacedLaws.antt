-- Rows that only some numbers have: one is changed, or one more is put behind them.
use Rattle.std.proofs.Common.{◌≡◌, ℕ, ◌<◌, ◌≤◌, ◌⊎◌, inl, inr, List, [], ◌∷◌, ◌++◌, length, set, get_or, refl, sym, ◌∙◌, ap, subst, arith}
use Rattle.std.proofs.lemmas.Bool.{cases_eq, cases_lt}
use Rattle.std.proofs.lemmas.List.{get_or-map, get_or-set_same, get_or-set_other, get_or_append_left, get_or_past, get_or_push, get_or_read, length-map, length-set, length_push}
use Rattle.partitioner.specs.Private.Places.{ArePlaced, placed_rows}

pub none_long : (xs : List ℕ) → length xs ≡ 0 → xs ≡ []
none_long [] e = refl
none_long (x ∷ xs) e = absurd (omega (arith, e))

pub placed_long : (places : List ℕ) (rows : List (List ℕ)) → length (placed_rows places rows) ≡ length places
placed_long places rows = length-map places (λ p. get_or rows p [])

-- the row of a number is the one in its place
pub row_at : (places : List ℕ) (rows : List (List ℕ)) (x : ℕ) → ArePlaced places rows → get_or (placed_rows places rows) x [] ≡ get_or rows (get_or places x 0) []
row_at places rows x placed = go (cases_lt x (length places))
  where
    go : (x < length places) ⊎ (length places ≤ x) → get_or (placed_rows places rows) x [] ≡ get_or rows (get_or places x 0) []
    go (inl l) = get_or-map (λ p. get_or rows p []) places x 0 [] l
    go (inr past) =
        get_or_past (placed_rows places rows) x [] (subst (λ (k : ℕ). k ≤ x) (sym (placed_long places rows)) past)
        ∙ (sym placed.none ∙ ap (λ (p : ℕ). get_or rows p []) (sym (get_or_past places x 0 past)))

-- no number has a row
pub none_placed : (places : List ℕ) (rows : List (List ℕ)) → ((x : ℕ) → get_or places x 0 ≡ 0) → rows ≡ [] ∷ [] → ArePlaced places rows
none_placed places rows none e =
    record {
      none = ap (λ (r : List (List ℕ)). get_or r 0 []) e;
      within = λ x. omega (arith, none x, ap length e);
      apart = λ x z own same. absurd (own (none x));
    }

pub row_none : (places : List ℕ) (rows : List (List ℕ)) (x : ℕ) → ArePlaced places rows → get_or places x 0 ≡ 0 → get_or (placed_rows places rows) x [] ≡ []
row_none places rows x placed e = row_at places rows x placed ∙ (ap (λ (p : ℕ). get_or rows p []) e ∙ placed.none)

-- the row of number x is changed
pub changed_placed : (places : List ℕ) (rows : List (List ℕ)) (x : ℕ) (now : List ℕ) → ArePlaced places rows → (get_or places x 0 ≡ 0 → ⊥) → ArePlaced places (set rows (get_or places x 0) now)
changed_placed places rows x now placed own =
    record {
      none = get_or-set_other rows (get_or places x 0) 0 now [] (λ e. own (sym e)) ∙ placed.none;
      within = λ z. subst (λ (k : ℕ). get_or places z 0 < k) (sym (length-set rows (get_or places x 0) now)) (placed.within z);
      apart = placed.apart;
    }

-- what holds of each row that stays, and of the one that is changed, holds of all
pub row_changed : (R : ℕ → List ℕ → List ℕ → Type 0) (places : List ℕ) (rows : List (List ℕ)) (x : ℕ) (now : List ℕ) → ArePlaced places rows → (get_or places x 0 ≡ 0 → ⊥) → ((z : ℕ) (row : List ℕ) → (z ≡ x → ⊥) → R z row row) → R x (get_or rows (get_or places x 0) []) now → (z : ℕ) → R z (get_or (placed_rows places rows) z []) (get_or (placed_rows places (set rows (get_or places x 0) now)) z [])
row_changed R places rows x now placed own stays changed z = go (cases_eq z x)
  where
    rows' : List (List ℕ)
    rows' = set rows (get_or places x 0) now

    after : ArePlaced places rows'
    after = changed_placed places rows x now placed own

    here : get_or (placed_rows places rows') x [] ≡ now
    here = row_at places rows' x after ∙ get_or-set_same rows (get_or places x 0) now [] (placed.within x)

    there : (z ≡ x → ⊥) → get_or (placed_rows places rows') z [] ≡ get_or (placed_rows places rows) z []
    there ne = row_at places rows' z after ∙ (get_or-set_other rows (get_or places x 0) (get_or places z 0) now [] (λ e. ne (sym (placed.apart x z own (sym e)))) ∙ sym (row_at places rows z placed))

    go : (z ≡ x) ⊎ (z ≡ x → ⊥) → R z (get_or (placed_rows places rows) z []) (get_or (placed_rows places rows') z [])
    go (inl e) =
        subst (λ (k : ℕ). R k (get_or (placed_rows places rows) k []) (get_or (placed_rows places rows') k [])) (sym e)
        (subst (λ (row : List ℕ). R x (get_or (placed_rows places rows) x []) row) (sym here)
        (subst (λ (row : List ℕ). R x row now) (sym (row_at places rows x placed)) changed))
    go (inr ne) = subst (λ (row : List ℕ). R z (get_or (placed_rows places rows) z []) row) (sym (there ne)) (stays z (get_or (placed_rows places rows) z []) ne)

pub row_changed_at : (R : ℕ → List ℕ → List ℕ → Type 0) (places : List ℕ) (rows : List (List ℕ)) (x p : ℕ) (was now : List ℕ) → ArePlaced places rows → p ≡ get_or places x 0 → 0 < p → was ≡ get_or rows p was → ((z : ℕ) (row : List ℕ) → (z ≡ x → ⊥) → R z row row) → R x was now → (z : ℕ) → R z (get_or (placed_rows places rows) z []) (get_or (placed_rows places (set rows p now)) z [])
row_changed_at R places rows x p was now placed e own at stays changed z =
    subst (λ (k : ℕ). R z (get_or (placed_rows places rows) z []) (get_or (placed_rows places (set rows k now)) z [])) (sym e)
    (row_changed R places rows x now placed (λ h. omega (arith, own, e, h)) stays
    (subst (λ (row : List ℕ). R x row now) (get_or_read rows p was (omega (arith, placed.within x, e)) at [] ∙ ap (λ (k : ℕ). get_or rows k []) e) changed) z)

-- number x gets a row that is put behind the others
pub pushed_placed : (places : List ℕ) (rows : List (List ℕ)) (x : ℕ) (now : List ℕ) → ArePlaced places rows → x < length places → ArePlaced (set places x (length rows)) (rows ++ now ∷ [])
pushed_placed places rows x now placed l =
    record {
      none = get_or_append_left rows (now ∷ []) [] 0 (omega (arith, placed.within x)) ∙ placed.none;
      within = λ z. within z (cases_eq z x);
      apart = λ z y own e. apart z y (cases_eq z x) (cases_eq y x) own e;
    }
  where
    here : (z : ℕ) → z ≡ x → get_or (set places x (length rows)) z 0 ≡ length rows
    here z e = ap (λ (k : ℕ). get_or (set places x (length rows)) k 0) e ∙ get_or-set_same places x (length rows) 0 l

    other : (z : ℕ) → (z ≡ x → ⊥) → get_or (set places x (length rows)) z 0 ≡ get_or places z 0
    other z ne = get_or-set_other places x z (length rows) 0 ne

    within : (z : ℕ) → (z ≡ x) ⊎ (z ≡ x → ⊥) → get_or (set places x (length rows)) z 0 < length (rows ++ now ∷ [])
    within z (inl e) = omega (arith, here z e, length_push rows now)
    within z (inr ne) = omega (arith, other z ne, placed.within z, length_push rows now)

    apart : (z y : ℕ) → (z ≡ x) ⊎ (z ≡ x → ⊥) → (y ≡ x) ⊎ (y ≡ x → ⊥) → (get_or (set places x (length rows)) z 0 ≡ 0 → ⊥) → get_or (set places x (length rows)) z 0 ≡ get_or (set places x (length rows)) y 0 → z ≡ y
    apart z y (inl a) (inl b) own e = a ∙ sym b
    apart z y (inl a) (inr nb) own e = absurd (omega (arith, here z a, other y nb, placed.within y, e))
    apart z y (inr na) (inl b) own e = absurd (omega (arith, here y b, other z na, placed.within z, e))
    apart z y (inr na) (inr nb) own e = placed.apart z y (λ h. own (other z na ∙ h)) (sym (other z na) ∙ (e ∙ other y nb))

pub row_pushed : (R : ℕ → List ℕ → List ℕ → Type 0) (places : List ℕ) (rows : List (List ℕ)) (x : ℕ) (now : List ℕ) → ArePlaced places rows → x < length places → ((z : ℕ) (row : List ℕ) → (z ≡ x → ⊥) → R z row row) → R x (get_or rows (get_or places x 0) []) now → (z : ℕ) → R z (get_or (placed_rows places rows) z []) (get_or (placed_rows (set places x (length rows)) (rows ++ now ∷ [])) z [])
row_pushed R places rows x now placed l stays changed z = go (cases_eq z x)
  where
    places' : List ℕ
    places' = set places x (length rows)

    rows' : List (List ℕ)
    rows' = rows ++ now ∷ []

    after : ArePlaced places' rows'
    after = pushed_placed places rows x now placed l

    here : get_or (placed_rows places' rows') x [] ≡ now
    here = row_at places' rows' x after ∙ (ap (λ (p : ℕ). get_or rows' p []) (get_or-set_same places x (length rows) 0 l) ∙ get_or_push rows now [] (length rows) refl)

    there : (z ≡ x → ⊥) → get_or (placed_rows places' rows') z [] ≡ get_or (placed_rows places rows) z []
    there ne =
        row_at places' rows' z after
        ∙ (ap (λ (p : ℕ). get_or rows' p []) (get_or-set_other places x z (length rows) 0 ne)
        ∙ (get_or_append_left rows (now ∷ []) [] (get_or places z 0) (placed.within z) ∙ sym (row_at places rows z placed)))

    go : (z ≡ x) ⊎ (z ≡ x → ⊥) → R z (get_or (placed_rows places rows) z []) (get_or (placed_rows places' rows') z [])
    go (inl e) =
        subst (λ (k : ℕ). R k (get_or (placed_rows places rows) k []) (get_or (placed_rows places' rows') k [])) (sym e)
        (subst (λ (row : List ℕ). R x (get_or (placed_rows places rows) x []) row) (sym here)
        (subst (λ (row : List ℕ). R x row now) (sym (row_at places rows x placed)) changed))
    go (inr ne) = subst (λ (row : List ℕ). R z (get_or (placed_rows places rows) z []) row) (sym (there ne)) (stays z (get_or (placed_rows places rows) z []) ne)

-- the same, where the list and the place are known by what they equal
pub placed_behind : (places : List ℕ) (rows rows' : List (List ℕ)) (x next : ℕ) (now : List ℕ) → ArePlaced places rows → x < length places → next ≡ length rows → rows' ≡ rows ++ now ∷ [] → ArePlaced (set places x next) rows'
placed_behind places rows rows' x next now placed l at e =
    subst (λ (r : List (List ℕ)). ArePlaced (set places x next) r) (sym e)
    (subst (λ (k : ℕ). ArePlaced (set places x k) (rows ++ now ∷ [])) (sym at) (pushed_placed places rows x now placed l))

pub row_behind : (R : ℕ → List ℕ → List ℕ → Type 0) (places : List ℕ) (rows rows' : List (List ℕ)) (x next : ℕ) (now : List ℕ) → ArePlaced places rows → x < length places → next ≡ length rows → rows' ≡ rows ++ now ∷ [] → ((z : ℕ) (row : List ℕ) → (z ≡ x → ⊥) → R z row row) → R x (get_or rows (get_or places x 0) []) now → (z : ℕ) → R z (get_or (placed_rows places rows) z []) (get_or (placed_rows (set places x next) rows') z [])
row_behind R places rows rows' x next now placed l at e stays changed z =
    subst (λ (r : List (List ℕ)). R z (get_or (placed_rows places rows) z []) (get_or (placed_rows (set places x next) r) z [])) (sym e)
    (subst (λ (k : ℕ). R z (get_or (placed_rows places rows) z []) (get_or (placed_rows (set places x k) (rows ++ now ∷ [])) z [])) (sym at)
    (row_pushed R places rows x now placed l stays changed z))
