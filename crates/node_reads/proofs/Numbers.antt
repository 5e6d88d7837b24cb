-- The numbers below a bound, and those of them that pass a test.
use Rattle.std.proofs.Common.{◌≡◌, ℕ, zero, suc, ◌+◌, ◌<◌, ◌⊎◌, inl, inr, Bool, true, false, cond, eqb, ◌||◌, List, [], ◌∷◌, ◌++◌, refl, ◌∙◌, ap, subst, arith, sym}
use Rattle.std.specs.List.{range_with_len, All, filter, list_any}
use Rattle.std.proofs.lemmas.Bool.{eq-eqb, ne_eqb, cases_eq}
use Rattle.std.proofs.lemmas.List.Elements.{filter-append, All-filter, All-head, All-tail}
use Rattle.std.proofs.lemmas.List.FromFn.{get_or-range_with_len, length-range_with_len}
use Rattle.std.proofs.lemmas.List.Folds.{list_any-append}

pub range_more : (a n : ℕ) → range_with_len a (suc n) ≡ range_with_len a n ++ (a + n) ∷ []
range_more a zero = ap (λ (k : ℕ). k ∷ []) (omega arith)
range_more a (suc n) =
    let e : (a + 1) + n ≡ a + suc n = omega arith in
    ap (λ (xs : List ℕ). a ∷ xs) (range_more (a + 1) n ∙ ap (λ (k : ℕ). range_with_len (a + 1) n ++ k ∷ []) e)

pub numbers_more : (n : ℕ) → range_with_len 0 (suc n) ≡ range_with_len 0 n ++ n ∷ []
numbers_more n = let e : 0 + n ≡ n = omega arith in range_more 0 n ∙ ap (λ (k : ℕ). range_with_len 0 n ++ k ∷ []) e

pub numbers_below : (n : ℕ) → All (λ k. k < n) (range_with_len 0 n)
numbers_below n k d l =
    let long = length-range_with_len 0 n in
    let within : k < n = omega (arith, long) in
    let at = get_or-range_with_len 0 n k d within in
    omega (arith, at, within)

pub passing_more : (p : ℕ → Bool) (n : ℕ) → filter p (range_with_len 0 (suc n)) ≡ filter p (range_with_len 0 n) ++ cond (p n) (n ∷ []) []
passing_more p n = ap (filter p) (numbers_more n) ∙ filter-append p (range_with_len 0 n) (n ∷ [])

-- a number below the bound is among those that pass exactly where it passes
any_itself : (p : ℕ → Bool) (n y : ℕ) → n ≡ y → list_any (λ m. eqb m y) (cond (p n) (n ∷ []) []) ≡ p y
any_itself p n y e = subst (λ (z : ℕ). list_any (λ m. eqb m z) (cond (p n) (n ∷ []) []) ≡ p z) e (go (p n))
  where
    go : (b : Bool) → list_any (λ m. eqb m n) (cond b (n ∷ []) []) ≡ b
    go true = ap (λ (b : Bool). b || false) (eq-eqb n n refl)
    go false = refl

any_other : (b : Bool) (n y : ℕ) → (n ≡ y → ⊥) → list_any (λ m. eqb m y) (cond b (n ∷ []) []) ≡ false
any_other true n y ne = ap (λ (b : Bool). b || false) (ne_eqb n y ne)
any_other false n y ne = refl

none_past : (xs : List ℕ) (y : ℕ) → All (λ k. k < y) xs → list_any (λ m. eqb m y) xs ≡ false
none_past [] y h = refl
none_past (x ∷ xs) y h =
    let l : x < y = All-head (λ k. k < y) x xs h in
    let ne : eqb x y ≡ false = ne_eqb x y (λ e. omega (arith, l, e)) in
    ap (λ (b : Bool). b || list_any (λ m. eqb m y) xs) ne ∙ none_past xs y (All-tail (λ k. k < y) x xs h)

passing_step : (p : ℕ → Bool) (n y : ℕ) → y < suc n → (y < n → list_any (λ m. eqb m y) (filter p (range_with_len 0 n)) ≡ p y) → list_any (λ m. eqb m y) (filter p (range_with_len 0 (suc n))) ≡ p y
passing_step p n y l before =
    ap (list_any (λ m. eqb m y)) (passing_more p n) ∙ (list_any-append (λ m. eqb m y) (filter p (range_with_len 0 n)) (cond (p n) (n ∷ []) []) ∙ go (cases_eq n y))
  where
    or_false : (b : Bool) → (b || false) ≡ b
    or_false true = refl
    or_false false = refl

    go : (n ≡ y) ⊎ (n ≡ y → ⊥) → (list_any (λ m. eqb m y) (filter p (range_with_len 0 n)) || list_any (λ m. eqb m y) (cond (p n) (n ∷ []) [])) ≡ p y
    go (inl e) =
        let none : list_any (λ m. eqb m y) (filter p (range_with_len 0 n)) ≡ false = none_past (filter p (range_with_len 0 n)) y (All-filter p (λ k. k < y) (range_with_len 0 n) (subst (λ (z : ℕ). All (λ k. k < z) (range_with_len 0 n)) e (numbers_below n))) in
        ap (λ (b : Bool). b || list_any (λ m. eqb m y) (cond (p n) (n ∷ []) [])) none ∙ any_itself p n y e
    go (inr ne) =
        ap (λ (b : Bool). list_any (λ m. eqb m y) (filter p (range_with_len 0 n)) || b) (any_other (p n) n y ne) ∙ (or_false (list_any (λ m. eqb m y) (filter p (range_with_len 0 n))) ∙ before (omega (arith, ne)))

pub any_passing : (p : ℕ → Bool) (n y : ℕ) → y < n → list_any (λ m. eqb m y) (filter p (range_with_len 0 n)) ≡ p y
any_passing p zero y l = absurd (omega arith)
any_passing p (suc n) y l = passing_step p n y l (λ h. any_passing p n y h)

pub eqb_turned : (a b : ℕ) → eqb a b ≡ eqb b a
eqb_turned a b = go (cases_eq a b)
  where
    go : (a ≡ b) ⊎ (a ≡ b → ⊥) → eqb a b ≡ eqb b a
    go (inl e) = eq-eqb a b e ∙ sym (eq-eqb b a (sym e))
    go (inr ne) = ne_eqb a b ne ∙ sym (ne_eqb b a (λ e. ne (sym e)))
