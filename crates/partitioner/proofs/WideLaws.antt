-- The wide nodes among those that a node reads.
use Rattle.std.proofs.Common.{◌≡◌, ℕ, ◌+◌, ◌<◌, ◌≤◌, ◌⊎◌, inl, inr, Bool, true, false, cond, eqb, ltb, ◌&&◌, ◌||◌, List, [], ◌∷◌, length, refl, sym, ◌∙◌, ap, arith, get_or}
use Rattle.std.specs.List.{list_any, count_by, filter}
use Rattle.std.proofs.lemmas.Bool.{cases_eq, cases_Bool, eqb-true, eq-eqb, ne_eqb, lt-ltb}
use Rattle.std.proofs.lemmas.Bool.Decides.{nat_tests}
use Rattle.std.proofs.lemmas.List.{take_all}
use Rattle.std.proofs.lemmas.List.Sums.{sum_by-cons}
use Rattle.flat_net.specs.Net.{Net}
use Rattle.partitioner.specs.Below.{one_if}
use Rattle.node_reads.specs.Sources.{reads_other, other_readers, other_sources, is_wide, wide_sources}
use Rattle.node_reads.specs.Private.Marking.{marked_by_row}
use Rattle.partitioner.specs.Private.Tracking.{reader_count}
use Rattle.node_reads.proofs.Numbers.{any_passing}

-- a part of a row has no more
pub count_filtered : (f w : ℕ → Bool) (xs : List ℕ) → count_by f (filter w xs) ≤ count_by f xs
count_filtered f w [] = omega arith
count_filtered f w (x ∷ xs) = go (w x) (count_filtered f w xs)
  where
    more : (ys : List ℕ) → count_by f (x ∷ ys) ≡ one_if (f x) + count_by f ys
    more ys = sum_by-cons (λ y. one_if (f y)) x ys

    go : (b : Bool) → count_by f (filter w xs) ≤ count_by f xs → count_by f (cond b (x ∷ filter w xs) (filter w xs)) ≤ count_by f (x ∷ xs)
    go true before = omega (arith, before, more xs, more (filter w xs))
    go false before = omega (arith, before, more xs)

-- a test that only numbers of the part pass
any_filtered : (f w : ℕ → Bool) (xs : List ℕ) → ((x : ℕ) → f x ≡ true → w x ≡ true) → list_any f (filter w xs) ≡ list_any f xs
any_filtered f w [] all = refl
any_filtered f w (x ∷ xs) all = go (cases_Bool (f x)) (any_filtered f w xs all)
  where
    skip : (b : Bool) → f x ≡ false → list_any f (cond b (x ∷ filter w xs) (filter w xs)) ≡ list_any f (filter w xs)
    skip true e = ap (λ (c : Bool). c || list_any f (filter w xs)) e
    skip false e = refl

    go : (f x ≡ true) ⊎ (f x ≡ false) → list_any f (filter w xs) ≡ list_any f xs → list_any f (cond (w x) (x ∷ filter w xs) (filter w xs)) ≡ (f x || list_any f xs)
    go (inl e) before = ap (λ (b : Bool). list_any f (cond b (x ∷ filter w xs) (filter w xs))) (all x e) ∙ ap (λ (b : Bool). f x || b) before
    go (inr e) before = skip (w x) e ∙ (before ∙ sym (ap (λ (c : Bool). c || list_any f xs) e))

-- the marked ones among the wide nodes are those that i reads
pub wide_marked : (n : Net) (i x : ℕ) → x < length n.nodes → is_wide n x ≡ true → marked_by_row (wide_sources n i) (length (wide_sources n i)) x ≡ reads_other n i x
wide_marked n i x l wide =
    ap (list_any (λ m. eqb m x)) (take_all (length (wide_sources n i)) (wide_sources n i) (omega arith))
    ∙ (any_filtered (λ m. eqb m x) (is_wide n) (other_sources n i) (λ m e. ap (is_wide n) (eqb-true m x e) ∙ wide) ∙ any_passing (λ y. reads_other n i y) (length n.nodes) x l)

-- the count that is kept once the first nodes are counted
abbrev pub counted_below : Net → List ℕ → ℕ → ℕ → ℕ → ℕ
counted_below n of x z q = cond (ltb z x && is_wide n z) (reader_count n of z q) 0

-- one more row counted
pub wide_counted : (n : Net) (of : List ℕ) (old new : ℕ → ℕ → ℕ) (x : ℕ) → is_wide n x ≡ true → ((z q : ℕ) → old z q ≡ counted_below n of x z q) → ((z q : ℕ) → new z q ≡ cond (eqb x z) (count_by (λ y. eqb (get_or of y 0) q) (other_readers n x)) (old z q)) → (z q : ℕ) → new z q ≡ counted_below n of (x + 1) z q
unfolding reader_count
wide_counted n of old new x wide before more z q = more z q ∙ go (cases_eq x z)
  where
    below_next : (z x : ℕ) → (x ≡ z → ⊥) → ltb z x ≡ ltb z (x + 1)
    below_next z x ne = grind (arith, nat_tests)

    go : (x ≡ z) ⊎ (x ≡ z → ⊥) → cond (eqb x z) (count_by (λ y. eqb (get_or of y 0) q) (other_readers n x)) (old z q) ≡ cond (ltb z (x + 1) && is_wide n z) (count_by (λ y. eqb (get_or of y 0) q) (other_readers n z)) 0
    go (inl e) =
        ap (λ (b : Bool). cond b (count_by (λ y. eqb (get_or of y 0) q) (other_readers n x)) (old z q)) (eq-eqb x z e)
        ∙ (ap (λ (w : ℕ). count_by (λ y. eqb (get_or of y 0) q) (other_readers n w)) e
        ∙ sym (ap (λ (b : Bool). cond (b && is_wide n z) (count_by (λ y. eqb (get_or of y 0) q) (other_readers n z)) 0) (lt-ltb z (x + 1) (omega (arith, e)))
        ∙ ap (λ (b : Bool). cond b (count_by (λ y. eqb (get_or of y 0) q) (other_readers n z)) 0) (ap (is_wide n) (sym e) ∙ wide)))
    go (inr ne) =
        ap (λ (b : Bool). cond b (count_by (λ y. eqb (get_or of y 0) q) (other_readers n x)) (old z q)) (ne_eqb x z ne)
        ∙ (before z q ∙ ap (λ (b : Bool). cond (b && is_wide n z) (count_by (λ y. eqb (get_or of y 0) q) (other_readers n z)) 0) (below_next z x ne))

-- and a row that is not
pub narrow_counted : (n : Net) (of : List ℕ) (old : ℕ → ℕ → ℕ) (x : ℕ) → is_wide n x ≡ false → ((z q : ℕ) → old z q ≡ counted_below n of x z q) → (z q : ℕ) → old z q ≡ counted_below n of (x + 1) z q
narrow_counted n of old x narrow before z q = before z q ∙ ap (λ (b : Bool). cond b (reader_count n of z q) 0) (go (cases_eq x z))
  where
    none : (b : Bool) → (b && false) ≡ false
    none true = refl
    none false = refl

    below_next : (z x : ℕ) → (x ≡ z → ⊥) → ltb z x ≡ ltb z (x + 1)
    below_next z x ne = grind (arith, nat_tests)

    go : (x ≡ z) ⊎ (x ≡ z → ⊥) → (ltb z x && is_wide n z) ≡ (ltb z (x + 1) && is_wide n z)
    go (inl e) =
        let no : is_wide n z ≡ false = ap (is_wide n) (sym e) ∙ narrow in
        ap (λ (b : Bool). ltb z x && b) no ∙ (none (ltb z x) ∙ sym (ap (λ (b : Bool). ltb z (x + 1) && b) no ∙ none (ltb z (x + 1))))
    go (inr ne) = ap (λ (b : Bool). b && is_wide n z) (below_next z x ne)
