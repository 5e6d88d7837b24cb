-- Sums and counts over the numbers below a bound.
use Rattle.std.proofs.Common.{◌≡◌, ℕ, zero, suc, ◌+◌, ◌*◌, ◌<◌, ◌≤◌, ◌⊎◌, inl, inr, Bool, true, false, not, refl, ap, arith, add-one}
use Rattle.std.proofs.lemmas.Bool.{cases_eq}
use mir.Val.{bool_byte}
use Rattle.partitioner.specs.Below.{sum_below, one_if, count_below}

pub sum_more : (k : ℕ) (f : ℕ → ℕ) → sum_below (k + 1) f ≡ sum_below k f + f k
unfolding sum_below
sum_more k f = ap (λ (m : ℕ). sum_below m f) (add-one k)

pub sum_none : (f : ℕ → ℕ) → sum_below 0 f ≡ 0
unfolding sum_below
sum_none f = refl

pub count_none : (p : ℕ → Bool) → count_below 0 p ≡ 0
unfolding count_below
count_none p = refl

pub one_if_le : (b : Bool) → one_if b ≤ 1
one_if_le true = omega arith
one_if_le false = omega arith

pub one_of_two : (b : Bool) → one_if b + one_if (not b) ≡ 1
one_of_two true = refl
one_of_two false = refl

pub count_le : (k : ℕ) (p : ℕ → Bool) → count_below k p ≤ k
unfolding count_below
count_le zero p = omega arith
count_le (suc k) p = omega (arith, count_le k p, one_if_le (p k))

pub sum_same : (k : ℕ) (f g : ℕ → ℕ) → ((x : ℕ) → x < k → f x ≡ g x) → sum_below k f ≡ sum_below k g
unfolding sum_below
sum_same zero f g same = refl
sum_same (suc k) f g same =
    let before = sum_same k f g (λ x l. same x (omega arith)) in
    let here = same k (omega arith) in
    omega (arith, before, here)

pub count_same : (k : ℕ) (p q : ℕ → Bool) → ((x : ℕ) → x < k → p x ≡ q x) → count_below k p ≡ count_below k q
unfolding count_below
count_same zero p q same = refl
count_same (suc k) p q same =
    let before = count_same k p q (λ x l. same x (omega arith)) in
    let here : one_if (p k) ≡ one_if (q k) = ap one_if (same k (omega arith)) in
    omega (arith, before, here)

-- two tests that differ at one number alone
pub count_changed : (k a : ℕ) (p q : ℕ → Bool) → a < k → ((x : ℕ) → x < k → (x ≡ a → ⊥) → p x ≡ q x) → count_below k p + one_if (q a) ≡ count_below k q + one_if (p a)
unfolding count_below
count_changed zero a p q l same = absurd (omega arith)
count_changed (suc k) a p q l same = go (cases_eq k a) (λ h. count_changed k a p q h (λ x m. same x (omega arith)))
  where
    go : (k ≡ a) ⊎ (k ≡ a → ⊥) → (a < k → count_below k p + one_if (q a) ≡ count_below k q + one_if (p a)) → (count_below k p + one_if (p k)) + one_if (q a) ≡ (count_below k q + one_if (q k)) + one_if (p a)
    go (inl e) before =
        let rest : count_below k p ≡ count_below k q = count_same k p q (λ x m. same x (omega arith) (λ h. omega (arith, h, e, m))) in
        let here : one_if (p k) ≡ one_if (p a) = ap (λ (x : ℕ). one_if (p x)) e in
        let there : one_if (q k) ≡ one_if (q a) = ap (λ (x : ℕ). one_if (q x)) e in
        omega (arith, rest, here, there)
    go (inr ne) before =
        let rest = before (omega (arith, ne, l)) in
        let here : one_if (p k) ≡ one_if (q k) = ap one_if (same k (omega arith) ne) in
        omega (arith, rest, here)

-- sums whose terms differ by two further terms
pub sum_balanced : (k : ℕ) (f g h i : ℕ → ℕ) → ((x : ℕ) → x < k → f x + g x ≡ h x + i x) → sum_below k f + sum_below k g ≡ sum_below k h + sum_below k i
unfolding sum_below
sum_balanced zero f g h i e = refl
sum_balanced (suc k) f g h i e =
    let before = sum_balanced k f g h i (λ x l. e x (omega arith)) in
    let here = e k (omega arith) in
    omega (arith, before, here)

pub sum_le : (k m : ℕ) (f : ℕ → ℕ) → ((x : ℕ) → x < k → f x ≤ m) → sum_below k f ≤ k * m
unfolding sum_below
sum_le zero m f h = omega arith
sum_le (suc k) m f h =
    let before = sum_le k m f (λ x l. h x (omega arith)) in
    let here = h k (omega arith) in
    omega (arith, before, here)

pub sum_zero : (k : ℕ) → sum_below k (λ x. 0) ≡ 0
unfolding sum_below
sum_zero zero = refl
sum_zero (suc k) = omega (arith, sum_zero k)

-- a bool as a number
pub byte_of : (b : Bool) → bool_byte b ≡ one_if b
byte_of true = refl
byte_of false = refl
