-- What a number noted in a row changes.
use Rattle.std.proofs.Common.{◌≡◌, ℕ, suc, ◌-◌, ◌<◌, ◌⊎◌, inl, inr, Bool, true, false, cond, eqb, ◌||◌, List, [], ◌∷◌, ◌++◌, length, refl, sym, ◌∙◌, ap, subst, arith, get_or, set, Option, Some, None, slice_get, append-nil, if◌then◌else◌}
use Rattle.std.specs.List.{range_with_len, All}
use Rattle.std.proofs.lemmas.Bool.{eq-eqb, ne_eqb, cases_eq}
use Rattle.std.proofs.lemmas.List.{length_push, get_or_push, get_or-set_same, get_or-set_other, length-set}
use Rattle.std.proofs.lemmas.Option.{slice_get_read, slice_get_within, get_or_from_slice_get}
use Rattle.std.proofs.lemmas.List.Elements.{All-filter}
use Rattle.node_reads.specs.Noting.{is_number, ends_in, noted, related, Lists}
use Rattle.node_reads.specs.Private.Marking.{ListsMarked}
use Rattle.node_reads.proofs.Numbers.{numbers_below, passing_more}

ends_in_pushed : (xs : List ℕ) (k : ℕ) → ends_in (xs ++ k ∷ []) k ≡ true
ends_in_pushed xs k =
    let long = length_push xs k in
    let place : length (xs ++ k ∷ []) - 1 ≡ length xs = omega (arith, long) in
    let there : slice_get (xs ++ k ∷ []) (length xs) ≡ Some k = slice_get_read (xs ++ k ∷ []) (length (xs ++ k ∷ [])) (length xs) k refl (omega (arith, long)) (sym (get_or_push xs k k (length xs) refl)) in
    ap (λ (i : ℕ). is_number (slice_get (xs ++ k ∷ []) i) k) place ∙ (ap (λ (o : Option ℕ). is_number o k) there ∙ eq-eqb k k refl)

ends_below : (xs : List ℕ) (k : ℕ) → All (λ z. z < k) xs → ends_in xs k ≡ false
ends_below xs k h = go (slice_get xs (length xs - 1)) refl
  where
    go : (o : Option ℕ) → slice_get xs (length xs - 1) ≡ o → is_number o k ≡ false
    go None e = refl
    go (Some z) e =
        let l : get_or xs (length xs - 1) k < k = h (length xs - 1) k (slice_get_within xs (length xs - 1) z e) in
        let at = get_or_from_slice_get xs (length xs - 1) z k e in
        ne_eqb z k (λ same. omega (arith, l, at, same))

-- the row with or without k, by the mark
abbrev pub marked_row : (ℕ → ℕ → Bool) → ℕ → ℕ → Bool → List ℕ
marked_row r k x m = related r k x ++ (if m then k ∷ [] else [])

ends_when_marked : (r : ℕ → ℕ → Bool) (k x : ℕ) (m : Bool) → ends_in (marked_row r k x m) k ≡ m
ends_when_marked r k x true = ends_in_pushed (related r k x) k
ends_when_marked r k x false =
    ap (λ (xs : List ℕ). ends_in xs k) (append-nil (related r k x)) ∙ ends_below (related r k x) k (All-filter (λ z. r z x) (λ z. z < k) (range_with_len 0 k) (numbers_below k))

-- one more mark
pub noted_marks : (r : ℕ → ℕ → Bool) (k count : ℕ) (marked marked' : ℕ → Bool) (rows : List (List ℕ)) (x : ℕ) → ListsMarked r k count marked rows → x < count → ((z : ℕ) → z < count → marked' z ≡ (marked z || eqb x z)) → ListsMarked r k count marked' (noted rows x k)
noted_marks r k count marked marked' rows x lists l more = go (marked x) refl
  where
    ends : ends_in (get_or rows x []) k ≡ marked x
    ends = ap (λ (xs : List ℕ). ends_in xs k) (lists.row x l) ∙ ends_when_marked r k x (marked x)

    kept : (z : ℕ) → z < count → (x ≡ z → ⊥) → marked' z ≡ marked z
    kept z h ne = more z h ∙ (ap (λ (b : Bool). marked z || b) (ne_eqb x z ne) ∙ or_false (marked z))
      where
        or_false : (b : Bool) → (b || false) ≡ b
        or_false true = refl
        or_false false = refl

    here : (z : ℕ) → z < count → x ≡ z → marked' z ≡ true
    here z h e = more z h ∙ (ap (λ (b : Bool). marked z || b) (eq-eqb x z e) ∙ or_true (marked z))
      where
        or_true : (b : Bool) → (b || true) ≡ true
        or_true true = refl
        or_true false = refl

    old_row : (z : ℕ) → z < count → marked' z ≡ marked z → get_or rows z [] ≡ marked_row r k z (marked' z)
    old_row z h e = lists.row z h ∙ ap (marked_row r k z) (sym e)

    go : (b : Bool) → marked x ≡ b → ListsMarked r k count marked' (noted rows x k)
    go true e =
        let same : noted rows x k ≡ rows = ap (λ (b : Bool). cond b rows (set rows x (get_or rows x [] ++ k ∷ []))) (ends ∙ e) in
        subst (λ (rs : List (List ℕ)). ListsMarked r k count marked' rs) (sym same) (record { long = lists.long; row = λ z h. at z h (cases_eq x z) })
      where
        at : (z : ℕ) → z < count → (x ≡ z) ⊎ (x ≡ z → ⊥) → get_or rows z [] ≡ marked_row r k z (marked' z)
        at z h (inl q) = old_row z h (here z h q ∙ (sym e ∙ ap marked q))
        at z h (inr ne) = old_row z h (kept z h ne)
    go false e =
        let same : noted rows x k ≡ set rows x (get_or rows x [] ++ k ∷ []) = ap (λ (b : Bool). cond b rows (set rows x (get_or rows x [] ++ k ∷ []))) (ends ∙ e) in
        subst (λ (rs : List (List ℕ)). ListsMarked r k count marked' rs) (sym same) (record { long = length-set rows x (get_or rows x [] ++ k ∷ []) ∙ lists.long; row = λ z h. at z h (cases_eq x z) })
      where
        was : get_or rows x [] ≡ related r k x
        was = lists.row x l ∙ (ap (marked_row r k x) e ∙ append-nil (related r k x))

        at : (z : ℕ) → z < count → (x ≡ z) ⊎ (x ≡ z → ⊥) → get_or (set rows x (get_or rows x [] ++ k ∷ [])) z [] ≡ marked_row r k z (marked' z)
        at z h (inl q) =
            let marks : marked' z ≡ true = here z h q in
            let row_x : get_or (set rows x (get_or rows x [] ++ k ∷ [])) x [] ≡ related r k x ++ k ∷ [] = get_or-set_same rows x (get_or rows x [] ++ k ∷ []) [] (omega (arith, l, lists.long)) ∙ ap (λ (xs : List ℕ). xs ++ k ∷ []) was in
            subst (λ (y : ℕ). get_or (set rows x (get_or rows x [] ++ k ∷ [])) y [] ≡ related r k y ++ k ∷ []) q row_x ∙ ap (marked_row r k z) (sym marks)
        at z h (inr ne) = get_or-set_other rows x z (get_or rows x [] ++ k ∷ []) [] (λ q. ne (sym q)) ∙ old_row z h (kept z h ne)

-- the same marks said otherwise
pub marks_same : (r : ℕ → ℕ → Bool) (k count : ℕ) (marked marked' : ℕ → Bool) (rows : List (List ℕ)) → ListsMarked r k count marked rows → ((z : ℕ) → z < count → marked' z ≡ marked z) → ListsMarked r k count marked' rows
marks_same r k count marked marked' rows lists e = record { long = lists.long; row = λ z h. lists.row z h ∙ ap (marked_row r k z) (sym (e z h)) }

-- before the first mark
pub marks_none : (r : ℕ → ℕ → Bool) (k count : ℕ) (marked : ℕ → Bool) (rows : List (List ℕ)) → Lists r k count rows → ((z : ℕ) → marked z ≡ false) → ListsMarked r k count marked rows
marks_none r k count marked rows lists none = record { long = lists.long; row = λ z h. lists.row z h ∙ (sym (append-nil (related r k z)) ∙ ap (marked_row r k z) (sym (none z))) }

-- after the last mark, where k is marked in the rows to which it is related
pub marks_all : (r : ℕ → ℕ → Bool) (k count : ℕ) (marked : ℕ → Bool) (rows : List (List ℕ)) → ListsMarked r k count marked rows → ((z : ℕ) → z < count → marked z ≡ r k z) → Lists r (suc k) count rows
marks_all r k count marked rows lists all = record { long = lists.long; row = λ z h. lists.row z h ∙ (ap (marked_row r k z) (all z h) ∙ sym (passing_more (λ w. r w z) k)) }
