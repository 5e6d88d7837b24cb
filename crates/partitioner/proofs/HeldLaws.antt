-- How many nodes each partition holds.
use Rattle.std.proofs.Common.{◌≡◌, ℕ, ◌+◌, ◌-◌, ◌<◌, ◌≤◌, ◌⊎◌, inl, inr, eqb, List, length, refl, sym, ◌∙◌, ap, subst, arith, get_or, set, take}
use Rattle.std.proofs.lemmas.Bool.{cases_eq, eq-eqb, ne_eqb}
use Rattle.std.proofs.lemmas.List.{get_or-set_same, get_or-set_other, length-take, length-set}
use Rattle.std.proofs.lemmas.List.Sums.{sum_by_more, sum_by-set, count_by-le-length, get_or-le-sum_by}
use Rattle.partitioner.specs.Below.{one_if}
use Rattle.partitioner.specs.Sizes.{held}

pub held_le : (of : List ℕ) (j q : ℕ) → held (take j of) q ≤ j
held_le of j q = omega (arith, count_by-le-length (λ r. eqb r q) (take j of), length-take j of)

-- one more node counted
pub held_counted : (of holds : List ℕ) (count j q r : ℕ) → j < length of → length holds ≡ count → q < count → get_or of j 0 ≡ q → ((s : ℕ) → s < count → get_or holds s 0 ≡ held (take j of) s) → r < count → get_or (set holds q (get_or holds q 0 + 1)) r 0 ≡ held (take (j + 1) of) r
held_counted of holds count j q r l long within at before h = go (cases_eq q r)
  where
    more : held (take (j + 1) of) r ≡ held (take j of) r + one_if (eqb (get_or of j 0) r)
    more = sum_by_more (λ s. one_if (eqb s r)) of j 0 l

    go : (q ≡ r) ⊎ (q ≡ r → ⊥) → get_or (set holds q (get_or holds q 0 + 1)) r 0 ≡ held (take (j + 1) of) r
    go (inl e) =
        let here : get_or (set holds q (get_or holds q 0 + 1)) r 0 ≡ get_or holds q 0 + 1 = subst (λ (s : ℕ). get_or (set holds q (get_or holds q 0 + 1)) s 0 ≡ get_or holds q 0 + 1) e (get_or-set_same holds q (get_or holds q 0 + 1) 0 (omega (arith, long, within))) in
        let one : one_if (eqb (get_or of j 0) r) ≡ 1 = ap one_if (eq-eqb (get_or of j 0) r (at ∙ e)) in
        let was : get_or holds q 0 ≡ held (take j of) r = before q within ∙ ap (held (take j of)) e in
        omega (arith, here, one, was, more)
    go (inr ne) =
        let here = get_or-set_other holds q r (get_or holds q 0 + 1) 0 (λ e. ne (sym e)) in
        let none : one_if (eqb (get_or of j 0) r) ≡ 0 = ap one_if (ne_eqb (get_or of j 0) r (λ e. ne (sym at ∙ e))) in
        omega (arith, here, none, before r h, more)

-- a node that moves
pub held_moved : (of : List ℕ) (i b q : ℕ) → i < length of → held (set of i b) q + one_if (eqb (get_or of i 0) q) ≡ held of q + one_if (eqb b q)
held_moved of i b q l = sum_by-set (λ r. one_if (eqb r q)) of i b 0 l

pub held_some : (of : List ℕ) (i : ℕ) → i < length of → 0 < held of (get_or of i 0)
held_some of i l =
    let one : one_if (eqb (get_or of i 0) (get_or of i 0)) ≡ 1 = ap one_if (eq-eqb (get_or of i 0) (get_or of i 0) refl) in
    omega (arith, get_or-le-sum_by (λ r. one_if (eqb r (get_or of i 0))) of i 0 l, one)

pub held_within : (of : List ℕ) (q : ℕ) → held of q ≤ length of
held_within of q = count_by-le-length (λ r. eqb r q) of

-- the counts kept for two partitions, shifted
pub held_shifted : (holds : List ℕ) (a b q : ℕ) → a < length holds → b < length holds → (a ≡ b → ⊥) → 0 < get_or holds a 0 → get_or (set (set holds a (get_or holds a 0 - 1)) b (get_or holds b 0 + 1)) q 0 + one_if (eqb a q) ≡ get_or holds q 0 + one_if (eqb b q)
held_shifted holds a b q l m apart some = go (cases_eq b q) (cases_eq a q)
  where
    go : (b ≡ q) ⊎ (b ≡ q → ⊥) → (a ≡ q) ⊎ (a ≡ q → ⊥) → get_or (set (set holds a (get_or holds a 0 - 1)) b (get_or holds b 0 + 1)) q 0 + one_if (eqb a q) ≡ get_or holds q 0 + one_if (eqb b q)
    go (inl e) (inl f) = absurd (apart (f ∙ sym e))
    go (inl e) (inr nf) =
        let here : get_or (set (set holds a (get_or holds a 0 - 1)) b (get_or holds b 0 + 1)) q 0 ≡ get_or holds b 0 + 1 =
        subst (λ (r : ℕ). get_or (set (set holds a (get_or holds a 0 - 1)) b (get_or holds b 0 + 1)) r 0 ≡ get_or holds b 0 + 1) e (get_or-set_same (set holds a (get_or holds a 0 - 1)) b (get_or holds b 0 + 1) 0 (omega (arith, length-set holds a (get_or holds a 0 - 1), m))) in
        let at : get_or holds b 0 ≡ get_or holds q 0 = ap (λ (r : ℕ). get_or holds r 0) e in
        let none : one_if (eqb a q) ≡ 0 = ap one_if (ne_eqb a q nf) in
        let one : one_if (eqb b q) ≡ 1 = ap one_if (eq-eqb b q e) in
        omega (arith, here, at, none, one)
    go (inr ne) (inl f) =
        let outer = get_or-set_other (set holds a (get_or holds a 0 - 1)) b q (get_or holds b 0 + 1) 0 (λ e. ne (sym e)) in
        let here : get_or (set holds a (get_or holds a 0 - 1)) q 0 ≡ get_or holds a 0 - 1 = subst (λ (r : ℕ). get_or (set holds a (get_or holds a 0 - 1)) r 0 ≡ get_or holds a 0 - 1) f (get_or-set_same holds a (get_or holds a 0 - 1) 0 l) in
        let at : get_or holds a 0 ≡ get_or holds q 0 = ap (λ (r : ℕ). get_or holds r 0) f in
        let one : one_if (eqb a q) ≡ 1 = ap one_if (eq-eqb a q f) in
        let none : one_if (eqb b q) ≡ 0 = ap one_if (ne_eqb b q ne) in
        omega (arith, outer, here, at, one, none, some)
    go (inr ne) (inr nf) =
        let outer = get_or-set_other (set holds a (get_or holds a 0 - 1)) b q (get_or holds b 0 + 1) 0 (λ e. ne (sym e)) in
        let here = get_or-set_other holds a q (get_or holds a 0 - 1) 0 (λ e. nf (sym e)) in
        let no : one_if (eqb a q) ≡ 0 = ap one_if (ne_eqb a q nf) in
        let none : one_if (eqb b q) ≡ 0 = ap one_if (ne_eqb b q ne) in
        omega (arith, outer, here, no, none)
