-- Where a function of the partitions is lowest.
use Rattle.std.proofs.Common.{◌≡◌, ℕ, zero, suc, ◌<◌, ◌≤◌, ◌⊎◌, inl, inr, Bool, true, false, not, cond, ltb, leb, ◌&&◌, ◌||◌, [], ◌∷◌, get_or, Option, Some, None, refl, sym, ◌∙◌, ap, ap₂, subst, arith}
use Rattle.std.specs.Option.{unwrap_or, option_or}
use Rattle.std.specs.List.{find, list_all, range_with_len}
use Rattle.std.proofs.lemmas.Bool.{cases_eq, cases_lt, cases_Bool, ltb-true, ltb-false, lt-ltb, le-leb, lt-leb, le-ltb, and_parts, true≢false}
use Rattle.std.proofs.lemmas.List.Folds.{find-append, list_all-append, list_all_at}
use Rattle.std.proofs.lemmas.List.FromFn.{get_or-range_with_len, length-range_with_len}
use Rattle.node_reads.proofs.Numbers.{numbers_more}
use Rattle.partitioner.specs.Refining.{lowest, is_least}
use Rattle.partitioner.specs.Private.Leading.{AsGood, IsReached}

pub record IsLowest (f : ℕ → ℕ) (passes : ℕ → Bool) (start bound a : ℕ) : Type 0 where
  pub reached : IsReached f passes start bound a
  pub best : (c : ℕ) → c < bound → passes c ≡ true → AsGood f start a c

-- b where it passes and f is lower there than at a, else a
abbrev lower_of : (ℕ → ℕ) → (ℕ → Bool) → ℕ → ℕ → ℕ
lower_of f passes a b = cond (passes b && ltb (f b) (f a)) b a

-- the same number, found step by step
stepped : (ℕ → ℕ) → (ℕ → Bool) → ℕ → ℕ → ℕ
stepped f passes start zero = start
stepped f passes start (suc k) = lower_of f passes (stepped f passes start k) k

lowest_step : (f : ℕ → ℕ) (passes : ℕ → Bool) (start bound a : ℕ) → IsLowest f passes start bound a → IsLowest f passes start (suc bound) (lower_of f passes a bound)
lowest_step f passes start bound a is = go (cases_Bool (passes bound && ltb (f bound) (f a)))
  where
    wider : IsReached f passes start bound a → IsReached f passes start (suc bound) a
    wider (inl e) = inl e
    wider (inr h) = inr (omega (arith, h), h.1, h.2)

    least : IsReached f passes start bound a → f a ≤ f start
    least (inl e) = omega (arith, ap f e)
    least (inr h) = omega (arith, h)

    drop_lower : (c : ℕ) → f bound < f a → AsGood f start a c → AsGood f start bound c
    drop_lower c l (inl h) = inl (omega (arith, h))
    drop_lower c l (inr h) = inl (omega (arith, h))

    go : ((passes bound && ltb (f bound) (f a)) ≡ true) ⊎ ((passes bound && ltb (f bound) (f a)) ≡ false) → IsLowest f passes start (suc bound) (cond (passes bound && ltb (f bound) (f a)) bound a)
    go (inl e) =
        let parts = and_parts (passes bound) (ltb (f bound) (f a)) e in
        let l : f bound < f a = ltb-true (f bound) (f a) parts.1 in
        subst (λ (b : Bool). IsLowest f passes start (suc bound) (cond b bound a)) (sym e) (record {
          reached = inr (omega arith, parts.0, omega (arith, l, least is.reached));
          best = λ c h p. at c h p (cases_eq c bound) parts l;
        })
      where
        at : (c : ℕ) → c < suc bound → passes c ≡ true → (c ≡ bound) ⊎ (c ≡ bound → ⊥) → (passes bound ≡ true) × (ltb (f bound) (f a) ≡ true) → f bound < f a → AsGood f start bound c
        at c h p (inl q) parts l = inr (ap f (sym q), inr (omega (arith, q)))
        at c h p (inr ne) parts l = drop_lower c l (is.best c (omega (arith, h, ne)) p)
    go (inr e) =
        subst (λ (b : Bool). IsLowest f passes start (suc bound) (cond b bound a)) (sym e) (record {
          reached = wider is.reached;
          best = λ c h p. at c h p (cases_eq c bound);
        })
      where
        kept : (b : Bool) → (b && ltb (f bound) (f a)) ≡ false → b ≡ true → f a ≤ f bound
        kept true e p = ltb-false (f bound) (f a) e
        kept false e p = absurd (true≢false (sym p))

        before : f a ≤ f bound → IsReached f passes start bound a → AsGood f start a bound
        before l (inl q) = first (cases_lt (f a) (f bound))
          where
            first : (f a < f bound) ⊎ (f bound ≤ f a) → AsGood f start a bound
            first (inl m) = inl m
            first (inr m) = inr (omega (arith, m, l), inl q)
        before l (inr r) = first (cases_lt (f a) (f bound))
          where
            first : (f a < f bound) ⊎ (f bound ≤ f a) → AsGood f start a bound
            first (inl m) = inl m
            first (inr m) = inr (omega (arith, m, l), inr (omega (arith, r)))

        at : (c : ℕ) → c < suc bound → passes c ≡ true → (c ≡ bound) ⊎ (c ≡ bound → ⊥) → AsGood f start a c
        at c h p (inl q) = subst (λ (z : ℕ). AsGood f start a z) (sym q) (before (kept (passes bound) e (ap passes (sym q) ∙ p)) is.reached)
        at c h p (inr ne) = is.best c (omega (arith, h, ne)) p

stepped_is : (f : ℕ → ℕ) (passes : ℕ → Bool) (start bound : ℕ) → IsLowest f passes start bound (stepped f passes start bound)
unfolding stepped
stepped_is f passes start zero = record { reached = inl refl; best = λ c h p. absurd (omega (arith, h)) }
stepped_is f passes start (suc bound) = lowest_step f passes start bound (stepped f passes start bound) (stepped_is f passes start bound)

-- ---- the first of the numbers that pass

find_more : (p : ℕ → Bool) (n : ℕ) → find p (range_with_len 0 (suc n)) ≡ option_or (find p (range_with_len 0 n)) (cond (p n) (Some n) None)
find_more p n = ap (find p) (numbers_more n) ∙ find-append p (range_with_len 0 n) (n ∷ [])

find_none : (p : ℕ → Bool) (n : ℕ) → ((c : ℕ) → c < n → p c ≡ false) → find p (range_with_len 0 n) ≡ None
find_none p zero none = refl
find_none p (suc n) none = find_more p n ∙ (ap (λ (o : Option ℕ). option_or o (cond (p n) (Some n) None)) (find_none p n (λ c h. none c (omega (arith, h)))) ∙ ap (λ (b : Bool). cond b (Some n) None) (none n (omega arith)))

find_first : (p : ℕ → Bool) (n a : ℕ) → a < n → p a ≡ true → ((c : ℕ) → c < a → p c ≡ false) → find p (range_with_len 0 n) ≡ Some a
find_first p zero a l e none = absurd (omega (arith, l))
find_first p (suc n) a l e none = find_more p n ∙ go (λ h. find_first p n a h e none) (cases_eq a n)
  where
    last : (b : Bool) → b ≡ true → a ≡ n → cond b (Some n) None ≡ Some a
    last true q same = ap Some (sym same)
    last false q same = absurd (true≢false (sym q))

    go : (a < n → find p (range_with_len 0 n) ≡ Some a) → (a ≡ n) ⊎ (a ≡ n → ⊥) → option_or (find p (range_with_len 0 n)) (cond (p n) (Some n) None) ≡ Some a
    go before (inl same) =
        ap (λ (o : Option ℕ). option_or o (cond (p n) (Some n) None)) (find_none p n (λ c h. none c (omega (arith, h, same)))) ∙ last (p n) (ap p (sym same) ∙ e) same
    go before (inr ne) = ap (λ (o : Option ℕ). option_or o (cond (p n) (Some n) None)) (before (omega (arith, l, ne)))

all_below : (p : ℕ → Bool) (n : ℕ) → ((c : ℕ) → c < n → p c ≡ true) → list_all p (range_with_len 0 n) ≡ true
all_below p zero all = refl
all_below p (suc n) all =
    ap (list_all p) (numbers_more n)
    ∙ (list_all-append p (range_with_len 0 n) (n ∷ []) ∙ (ap (λ (b : Bool). b && (p n && true)) (all_below p n (λ c h. all c (omega (arith, h)))) ∙ ap (λ (b : Bool). b && true) (all n (omega arith))))

one_below : (p : ℕ → Bool) (n c : ℕ) → c < n → p c ≡ false → list_all p (range_with_len 0 n) ≡ false
one_below p n c l e =
    let long = length-range_with_len 0 n in
    let at : get_or (range_with_len 0 n) c 0 ≡ c = omega (arith, get_or-range_with_len 0 n c 0 l) in
    list_all_at p (range_with_len 0 n) c 0 (omega (arith, long, l)) (ap p at ∙ e)

-- ---- what is found step by step is what the definition says

module _ (f : ℕ → ℕ) (passes : ℕ → Bool) (start bound a : ℕ) (is : IsLowest f passes start bound a) where
  low : ℕ → ℕ → Bool
  low b c = not (passes c) || leb (f b) (f c)

  least_true : a < bound → passes a ≡ true → f a < f start → is_least f passes start bound a ≡ true
  least_true l p h = ap₂ (λ (x y : Bool). x && y) p (ap₂ (λ (x y : Bool). x && y) (lt-ltb (f a) (f start) h) (all_below (λ c. not (passes c) || leb (f a) (f c)) bound (λ c within. each c within (passes c) refl)))
    where
      below : (c : ℕ) → AsGood f start a c → f a ≤ f c
      below c (inl q) = omega (arith, q)
      below c (inr q) = omega (arith, q.0)

      each : (c : ℕ) → c < bound → (b : Bool) → passes c ≡ b → (not (passes c) || leb (f a) (f c)) ≡ true
      each c within true e = ap (λ (b : Bool). not b || leb (f a) (f c)) e ∙ le-leb (f a) (f c) (below c (is.best c within e))
      each c within false e = ap (λ (b : Bool). not b || leb (f a) (f c)) e

  least_before : a < bound → passes a ≡ true → f a < f start → (c : ℕ) → c < a → is_least f passes start bound c ≡ false
  least_before l p h c before = go (passes c) refl
    where
      none : (x y : Bool) → y ≡ false → (x && (ltb (f c) (f start) && y)) ≡ false
      none true y e = ap (λ (b : Bool). ltb (f c) (f start) && b) e ∙ and_false (ltb (f c) (f start))
        where
          and_false : (b : Bool) → (b && false) ≡ false
          and_false true = refl
          and_false false = refl
      none false y e = refl

      higher : AsGood f start a c → f a < f c
      higher (inl q) = q
      higher (inr (e, inl q)) = absurd (omega (arith, ap f q, h))
      higher (inr (e, inr q)) = absurd (omega (arith, q, before))

      not_low : passes c ≡ true → list_all (λ d. not (passes d) || leb (f c) (f d)) (range_with_len 0 bound) ≡ false
      not_low e = one_below (λ d. not (passes d) || leb (f c) (f d)) bound a l (ap (λ (b : Bool). not b || leb (f c) (f a)) p ∙ lt-leb (f c) (f a) (higher (is.best c (omega (arith, before, l)) e)))

      go : (b : Bool) → passes c ≡ b → is_least f passes start bound c ≡ false
      go true e = none (passes c) (list_all (λ d. not (passes d) || leb (f c) (f d)) (range_with_len 0 bound)) (not_low e)
      go false e = ap (λ (b : Bool). b && (ltb (f c) (f start) && list_all (λ d. not (passes d) || leb (f c) (f d)) (range_with_len 0 bound))) e

  least_nowhere : a ≡ start → (c : ℕ) → c < bound → is_least f passes start bound c ≡ false
  least_nowhere same c within = go (passes c) refl
    where
      above : AsGood f start a c → f start ≤ f c
      above (inl q) = omega (arith, q, ap f same)
      above (inr q) = omega (arith, q.0, ap f same)

      none : (x y z : Bool) → x ≡ true → y ≡ false → (x && (y && z)) ≡ false
      none x y z e q = ap₂ (λ (s t : Bool). s && (t && z)) e q

      go : (b : Bool) → passes c ≡ b → is_least f passes start bound c ≡ false
      go true e = none (passes c) (ltb (f c) (f start)) (list_all (λ d. not (passes d) || leb (f c) (f d)) (range_with_len 0 bound)) e (le-ltb (f c) (f start) (above (is.best c within e)))
      go false e = ap (λ (b : Bool). b && (ltb (f c) (f start) && list_all (λ d. not (passes d) || leb (f c) (f d)) (range_with_len 0 bound))) e

  found : lowest f passes start bound ≡ a
  unfolding lowest
  found = go is.reached
    where
      go : IsReached f passes start bound a → unwrap_or (find (is_least f passes start bound) (range_with_len 0 bound)) start ≡ a
      go (inl same) = ap (λ (o : Option ℕ). unwrap_or o start) (find_none (is_least f passes start bound) bound (least_nowhere same)) ∙ sym same
      go (inr h) = ap (λ (o : Option ℕ). unwrap_or o start) (find_first (is_least f passes start bound) bound a h.0 (least_true h.0 h.1 h.2) (least_before h.0 h.1 h.2))

-- the definition gives one
pub lowest_is : (f : ℕ → ℕ) (passes : ℕ → Bool) (start bound : ℕ) → IsLowest f passes start bound (lowest f passes start bound)
lowest_is f passes start bound =
    let step = stepped_is f passes start bound in
    subst (λ (z : ℕ). IsLowest f passes start bound z) (sym (found f passes start bound (stepped f passes start bound) step)) step

-- there is one alone
pub lowest_one : (f : ℕ → ℕ) (passes : ℕ → Bool) (start bound a b : ℕ) → IsLowest f passes start bound a → IsLowest f passes start bound b → a ≡ b
lowest_one f passes start bound a b is_a is_b = go is_a.reached is_b.reached
  where
    beaten : (x y : ℕ) → x ≡ start → f y < f start → AsGood f start x y → ⊥
    beaten x y e l (inl h) = omega (arith, ap f e, l, h)
    beaten x y e l (inr h) = omega (arith, ap f e, l, h)

    order : (x y : ℕ) → f x < f start → AsGood f start x y → AsGood f start y x → f y < f start → x ≤ y
    order x y l (inl h) (inl k) m = absurd (omega (arith, h, k))
    order x y l (inl h) (inr k) m = absurd (omega (arith, h, k))
    order x y l (inr (e, inl q)) k m = absurd (omega (arith, ap f q, l))
    order x y l (inr (e, inr q)) k m = q

    go : IsReached f passes start bound a → IsReached f passes start bound b → a ≡ b
    go (inl e) (inl q) = e ∙ sym q
    go (inl e) (inr h) = absurd (beaten a b e h.2 (is_a.best b h.0 h.1))
    go (inr h) (inl e) = absurd (beaten b a e h.2 (is_b.best a h.0 h.1))
    go (inr h) (inr k) =
        let ab = order a b h.2 (is_a.best b k.0 k.1) (is_b.best a h.0 h.1) k.2 in
        let ba = order b a k.2 (is_b.best a h.0 h.1) (is_a.best b k.0 k.1) h.2 in
        omega (arith, ab, ba)

pub is_lowest : (f : ℕ → ℕ) (passes : ℕ → Bool) (start bound a : ℕ) → IsLowest f passes start bound a → a ≡ lowest f passes start bound
is_lowest f passes start bound a is = lowest_one f passes start bound a (lowest f passes start bound) is (lowest_is f passes start bound)
