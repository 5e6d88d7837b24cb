-- Steps of a forest, and its numbers.
use Rattle.std.proofs.Common.{◌≡◌, ◌≢◌, ℕ, ◌+◌, ◌<◌, ◌≤◌, ◌⊎◌, inl, inr, List, [], ◌∷◌, ◌++◌, length, length-append, get_or, set, Option, sym, ap, ◌∙◌, arith}
use Rattle.std.proofs.lemmas.Bool.{cases_lt}
use Rattle.std.proofs.lemmas.List.{get_or_push, get_or_append_left, get_or-set_same, get_or-set_other, length-set}
use Rattle.certifying.specs.Private.Forests.{IsForest, GoesAlong}
use Rattle.certifying.specs.Private.Numbers.{AreNumbered}

-- equal or not
pub same_or_not : (a b : ℕ) → (a ≡ b) ⊎ (a ≢ b)
same_or_not a b = go (cases_lt a b) (cases_lt b a)
  where
    go : (a < b) ⊎ (b ≤ a) → (b < a) ⊎ (a ≤ b) → (a ≡ b) ⊎ (a ≢ b)
    go (inl l) any = inr (λ e. omega (arith, l, e))
    go (inr l) (inl m) = inr (λ e. omega (arith, m, e))
    go (inr l) (inr m) = inl (omega (arith, l, m))

-- a parent that is no greater
pub forest_set : (up : List ℕ) (b a : ℕ) → IsForest up → a ≤ b → IsForest (set up b a)
forest_set up b a forest order i l = go (same_or_not i b)
  where
    within : i < length up
    within = omega (arith, l, length-set up b a)

    go : (i ≡ b) ⊎ (i ≢ b) → get_or (set up b a) i 0 ≤ i
    go (inl e) = let at : get_or (set up b a) b 0 ≡ a = get_or-set_same up b a 0 (omega (arith, within, e)) in let here : get_or (set up b a) i 0 ≡ get_or (set up b a) b 0 = ap (λ (z : ℕ). get_or (set up b a) z 0) e in omega (arith, at, here, order, e)
    go (inr other) = let at : get_or (set up b a) i 0 ≡ get_or up i 0 = get_or-set_other up b i a 0 other in omega (arith, at, forest i within)

-- and is sorted as the child is
pub along_set : (f : ℕ → Option ℕ) (up : List ℕ) (b a : ℕ) → GoesAlong f up → f a ≡ f b → GoesAlong f (set up b a)
along_set f up b a along same i l = go (same_or_not i b)
  where
    within : i < length up
    within = omega (arith, l, length-set up b a)

    go : (i ≡ b) ⊎ (i ≢ b) → f (get_or (set up b a) i 0) ≡ f i
    go (inl e) = ap (λ (z : ℕ). f (get_or (set up b a) z 0)) e ∙ (ap f (get_or-set_same up b a 0 (omega (arith, within, e))) ∙ (same ∙ ap f (sym e)))
    go (inr other) = ap f (get_or-set_other up b i a 0 other) ∙ along i within

-- one number more
module _ (up numbers : List ℕ) (count i number next : ℕ) (are : AreNumbered up numbers count) (long : length numbers ≡ i) (within : i < length up) (below : get_or up i 0 ≤ i)
    (root : get_or up i 0 ≡ i → number ≡ count) (other : get_or up i 0 < i → number ≡ get_or numbers (get_or up i 0) 0) (fresh : number ≡ count → next ≡ count + 1) (old : number ≢ count → next ≡ count)
  where
    least : (number ≤ count) × (number < next) × (count ≤ next)
    least = go (cases_lt (get_or up i 0) i) (same_or_not number count)
      where
        small : (get_or up i 0 < i) ⊎ (i ≤ get_or up i 0) → number ≤ count
        small (inl l) = let e = other l in let b = are.below (get_or up i 0) (omega (arith, l, long)) in omega (arith, e, b)
        small (inr l) = let e = root (omega (arith, l, below)) in omega (arith, e)

        go : (get_or up i 0 < i) ⊎ (i ≤ get_or up i 0) → (number ≡ count) ⊎ (number ≢ count) → (number ≤ count) × (number < next) × (count ≤ next)
        go c (inl e) = let n = fresh e in (small c, omega (arith, e, n), omega (arith, n))
        go c (inr d) = let n = old d in let s = small c in let strict : number < count = strictly number count s d in (s, omega (arith, n, strict), omega (arith, n))
          where
            strictly : (a b : ℕ) → a ≤ b → a ≢ b → a < b
            strictly a b l d = by (cases_lt a b)
              where
                by : (a < b) ⊎ (b ≤ a) → a < b
                by (inl m) = m
                by (inr m) = absurd (d (omega (arith, l, m)))

    at_last : get_or (numbers ++ number ∷ []) i 0 ≡ number
    at_last = get_or_push numbers number 0 i long

    at_old : (j : ℕ) → j < i → get_or (numbers ++ number ∷ []) j 0 ≡ get_or numbers j 0
    at_old j l = get_or_append_left numbers (number ∷ []) 0 j (omega (arith, l, long))

    more : length (numbers ++ number ∷ []) ≡ i + 1
    more = length-append numbers (number ∷ []) ∙ omega (arith, long)

    below_more : (j : ℕ) → j < length (numbers ++ number ∷ []) → get_or (numbers ++ number ∷ []) j 0 < next
    below_more j l = go (cases_lt j i)
      where
        go : (j < i) ⊎ (i ≤ j) → get_or (numbers ++ number ∷ []) j 0 < next
        go (inl m) = let b = are.below j (omega (arith, m, long)) in let e = at_old j m in omega (arith, b, e, least.2)
        go (inr m) =
            let here : j ≡ i = omega (arith, m, l, more) in
            let e : get_or (numbers ++ number ∷ []) j 0 ≡ number = ap (λ (z : ℕ). get_or (numbers ++ number ∷ []) z 0) here ∙ at_last in
            omega (arith, e, least.1)

    module _ (f : ℕ → Option ℕ) (along : GoesAlong f up) where
      -- the last one beside an earlier one
      with_last : (j : ℕ) → j < i → number ≡ get_or numbers j 0 → f i ≡ f j
      with_last j l e = go (cases_lt (get_or up i 0) i)
        where
          go : (get_or up i 0 < i) ⊎ (i ≤ get_or up i 0) → f i ≡ f j
          go (inl m) = sym (along i within) ∙ are.alike f along (get_or up i 0) j (omega (arith, m, long)) (omega (arith, l, long)) (sym (other m) ∙ e)
          go (inr m) = absurd (let r = root (omega (arith, m, below)) in let b = are.below j (omega (arith, l, long)) in omega (arith, r, e, b))

      alike_more : (a b : ℕ) → a < length (numbers ++ number ∷ []) → b < length (numbers ++ number ∷ []) → get_or (numbers ++ number ∷ []) a 0 ≡ get_or (numbers ++ number ∷ []) b 0 → f a ≡ f b
      alike_more a b la lb e = go (cases_lt a i) (cases_lt b i)
        where
          go : (a < i) ⊎ (i ≤ a) → (b < i) ⊎ (i ≤ b) → f a ≡ f b
          go (inl ma) (inl mb) = are.alike f along a b (omega (arith, ma, long)) (omega (arith, mb, long)) (sym (at_old a ma) ∙ (e ∙ at_old b mb))
          go (inl ma) (inr mb) =
              let here : b ≡ i = omega (arith, mb, lb, more) in
              let same : number ≡ get_or numbers a 0 = sym (ap (λ (z : ℕ). get_or (numbers ++ number ∷ []) z 0) here ∙ at_last) ∙ (sym e ∙ at_old a ma) in
              sym (ap f here ∙ with_last a ma same)
          go (inr ma) (inl mb) =
              let here : a ≡ i = omega (arith, ma, la, more) in
              let same : number ≡ get_or numbers b 0 = sym (ap (λ (z : ℕ). get_or (numbers ++ number ∷ []) z 0) here ∙ at_last) ∙ (e ∙ at_old b mb) in
              ap f here ∙ with_last b mb same
          go (inr ma) (inr mb) = let here : a ≡ b = omega (arith, ma, mb, la, lb, more) in ap f here

    pub one_more : AreNumbered up (numbers ++ number ∷ []) next
    one_more = record { below = below_more; alike = alike_more }
