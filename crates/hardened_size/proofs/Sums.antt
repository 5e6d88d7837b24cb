-- Sums, added up in another order.
use Rattle.std.proofs.Common.{◌≡◌, ℕ, zero, suc, ◌+◌, ◌*◌, ◌<◌, ◌≤◌, ◌⊎◌, inl, inr, Bool, true, false, cond, eqb, ◌||◌, ◌&&◌, List, [], ◌∷◌, length, slice_get, Some, refl, ◌∙◌, ap, subst, arith, sym, filter}
use Rattle.std.specs.List.{sum_by, flat_map, range_with_len, list_any}
use Rattle.std.proofs.Math.Nat.{mul-add, mul-zero, mul-suc}
use Rattle.std.proofs.lemmas.Bool.{cases_eq, eq-eqb, ne_eqb}
use Rattle.std.proofs.lemmas.List.Sums.{sum_by-cons, sum_by-append, sum_by-le-sum_by}

-- ---- sums of sums

pub sum_none : {A : Type 0} (xs : List A) → sum_by (λ x. 0) xs ≡ 0
sum_none [] = refl
sum_none (x ∷ xs) = omega (arith, sum_by-cons (λ y. 0) x xs, sum_none xs)

-- the same for each
pub sum_of_same : (m s n : ℕ) → sum_by (λ x. m) (range_with_len s n) ≡ m * n
sum_of_same m s zero = sym (mul-zero m)
sum_of_same m s (suc n) = omega (arith, sum_by-cons (λ x. m) s (range_with_len (s + 1) n), sum_of_same m (s + 1) n, mul-suc m n)

pub sum_split : {A : Type 0} (f g : A → ℕ) (xs : List A) → sum_by (λ x. f x + g x) xs ≡ sum_by f xs + sum_by g xs
sum_split f g [] = refl
sum_split f g (x ∷ xs) = omega (arith, sum_by-cons (λ y. f y + g y) x xs, sum_by-cons f x xs, sum_by-cons g x xs, sum_split f g xs)

pub sum_times : {A : Type 0} (m : ℕ) (f : A → ℕ) (xs : List A) → sum_by (λ x. m * f x) xs ≡ m * sum_by f xs
sum_times m f [] = omega (arith, mul-zero m)
sum_times m f (x ∷ xs) =
    let both : m * (f x + sum_by f xs) ≡ m * f x + m * sum_by f xs = mul-add m (f x) (sum_by f xs) in
    sum_by-cons (λ y. m * f y) x xs ∙ (ap (λ (k : ℕ). m * f x + k) (sum_times m f xs) ∙ (sym both ∙ ap (λ (k : ℕ). m * k) (sym (sum_by-cons f x xs))))

-- the entries of lists, list by list
pub sum_of_lists : {A B : Type 0} (f : B → ℕ) (g : A → List B) (xs : List A) → sum_by f (flat_map g xs) ≡ sum_by (λ x. sum_by f (g x)) xs
sum_of_lists f g [] = refl
sum_of_lists f g (x ∷ xs) = omega (arith, sum_by-append f (g x) (flat_map g xs), sum_by-cons (λ y. sum_by f (g y)) x xs, sum_of_lists f g xs)

-- those that pass a test
pub sum_of_passing : {A : Type 0} (f : A → ℕ) (p : A → Bool) (xs : List A) → sum_by f (filter p xs) ≡ sum_by (λ x. cond (p x) (f x) 0) xs
sum_of_passing f p [] = refl
sum_of_passing f p (x ∷ xs) = go (p x) (sum_of_passing f p xs) ∙ sym (sum_by-cons (λ y. cond (p y) (f y) 0) x xs)
  where
    go : (b : Bool) → sum_by f (filter p xs) ≡ sum_by (λ y. cond (p y) (f y) 0) xs → sum_by f (cond b (x ∷ filter p xs) (filter p xs)) ≡ cond b (f x) 0 + sum_by (λ y. cond (p y) (f y) 0) xs
    go true ih = omega (arith, sum_by-cons f x (filter p xs), ih)
    go false ih = omega (arith, ih)

-- ---- lists and numbers of their entries

-- each entry has a number, from s on
pub sum_by_number : {A : Type 0} (f : A → ℕ) (g : ℕ → ℕ) (s : ℕ) (xs : List A) → ((i : ℕ) (x : A) → slice_get xs i ≡ Some x → g (s + i) ≤ f x) → sum_by g (range_with_len s (length xs)) ≤ sum_by f xs
sum_by_number f g s [] each = omega arith
sum_by_number f g s (x ∷ xs) each =
    let start : s + 0 ≡ s = omega arith in
    let first : g s ≤ f x = subst (λ k. g k ≤ f x) start (each 0 x refl) in
    let rest = sum_by_number f g (s + 1) xs (λ i y e. let next : s + suc i ≡ s + 1 + i = omega arith in subst (λ k. g k ≤ f y) next (each (suc i) y e)) in
    omega (arith, first, rest, sum_by-cons f x xs, sum_by-cons g s (range_with_len (s + 1) (length xs)))

-- entries of two lists, one for one
pub sum_by_place : {A B : Type 0} (f : A → ℕ) (g : B → ℕ) (xs : List A) (ys : List B) → length xs ≡ length ys → ((i : ℕ) (x : A) (y : B) → slice_get xs i ≡ Some x → slice_get ys i ≡ Some y → f x ≤ g y) → sum_by f xs ≤ sum_by g ys
sum_by_place f g [] ys long each = omega arith
sum_by_place f g (x ∷ xs) [] long each = absurd (omega (arith, long))
sum_by_place f g (x ∷ xs) (y ∷ ys) long each =
    omega (arith, sum_by-cons f x xs, sum_by-cons g y ys, each 0 x y refl refl, sum_by_place f g xs ys (omega (arith, long)) (λ i a b ea eb. each (suc i) a b ea eb))

-- the same for the numbers themselves
pub sum_in_row : (f g : ℕ → ℕ) (s n : ℕ) → ((x : ℕ) → s ≤ x → x < s + n → f x ≤ g x) → sum_by f (range_with_len s n) ≤ sum_by g (range_with_len s n)
sum_in_row f g s zero each = omega arith
sum_in_row f g s (suc n) each =
    omega (arith, each s (omega arith) (omega arith), sum_in_row f g (s + 1) n (λ x low high. each x (omega (arith, low)) (omega (arith, high))), sum_by-cons f s (range_with_len (s + 1) n), sum_by-cons g s (range_with_len (s + 1) n))

-- ---- what stands at most once

-- no number from a on is below a
none_before : (k : ℕ) (w : ℕ → ℕ) (a n : ℕ) → k < a → sum_by (λ p. cond (eqb k p) (w p) 0) (range_with_len a n) ≡ 0
none_before k w a zero l = refl
none_before k w a (suc n) l =
    let other : cond (eqb k a) (w a) 0 ≡ 0 = ap (λ (b : Bool). cond b (w a) 0) (ne_eqb k a (λ e. omega (arith, l, e))) in
    omega (arith, other, none_before k w (a + 1) n (omega (arith, l)), sum_by-cons (λ p. cond (eqb k p) (w p) 0) a (range_with_len (a + 1) n))

-- a number stands at most once among numbers in a row
pub once_at_most : (k : ℕ) (w : ℕ → ℕ) (a n : ℕ) → sum_by (λ p. cond (eqb k p) (w p) 0) (range_with_len a n) ≤ w k
once_at_most k w a zero = omega arith
once_at_most k w a (suc n) = go (once_at_most k w (a + 1) n) (cases_eq k a)
  where
    row : sum_by (λ p. cond (eqb k p) (w p) 0) (range_with_len a (suc n)) ≡ cond (eqb k a) (w a) 0 + sum_by (λ p. cond (eqb k p) (w p) 0) (range_with_len (a + 1) n)
    row = sum_by-cons (λ p. cond (eqb k p) (w p) 0) a (range_with_len (a + 1) n)

    go : sum_by (λ p. cond (eqb k p) (w p) 0) (range_with_len (a + 1) n) ≤ w k → (k ≡ a) ⊎ (k ≡ a → ⊥) → sum_by (λ p. cond (eqb k p) (w p) 0) (range_with_len a (suc n)) ≤ w k
    go ih (inl e) =
        let here : cond (eqb k a) (w a) 0 ≡ w a = ap (λ (b : Bool). cond b (w a) 0) (eq-eqb k a e) in
        omega (arith, row, here, ap w e, none_before k w (a + 1) n (omega (arith, e)))
    go ih (inr ne) =
        let other : cond (eqb k a) (w a) 0 ≡ 0 = ap (λ (b : Bool). cond b (w a) 0) (ne_eqb k a ne) in
        omega (arith, row, other, ih)

-- ---- what some entry asks for

either : (a b : Bool) (v : ℕ) → cond (a || b) v 0 ≤ cond a v 0 + cond b v 0
either true b v = omega arith
either false b v = omega arith

-- what passes where some entry passes costs no more than all entries that pass
pub some_entry : (v : ℕ) (q : ℕ → Bool) (ys : List ℕ) → cond (list_any q ys) v 0 ≤ sum_by (λ y. cond (q y) v 0) ys
some_entry v q [] = omega arith
some_entry v q (y ∷ ys) = omega (arith, either (q y) (list_any q ys) v, some_entry v q ys, sum_by-cons (λ z. cond (q z) v 0) y ys)

pub both : (a b : Bool) (v : ℕ) → cond (a && b) v 0 ≡ cond a (cond b v 0) 0
both true b v = refl
both false b v = refl

-- the numbers that some entry with a mark names: each entry names one, and one without a mark none
pub named_by_entries : (v : ℕ) (of : ℕ → ℕ) (q : ℕ → Bool) (a n : ℕ) (ys : List ℕ) → sum_by (λ p. cond (list_any (λ y. eqb (of y) p && q y) ys) v 0) (range_with_len a n) ≤ sum_by (λ y. cond (q y) v 0) ys
named_by_entries v of q a n [] = omega (arith, sum_none (range_with_len a n))
named_by_entries v of q a n (y ∷ ys) =
    let split = sum_by-le-sum_by (λ p. cond (list_any (λ z. eqb (of z) p && q z) (y ∷ ys)) v 0) (λ p. cond (eqb (of y) p) (cond (q y) v 0) 0 + cond (list_any (λ z. eqb (of z) p && q z) ys) v 0) (range_with_len a n)
    (λ p. omega (arith, either (eqb (of y) p && q y) (list_any (λ z. eqb (of z) p && q z) ys) v, both (eqb (of y) p) (q y) v)) in
    let parts = sum_split (λ p. cond (eqb (of y) p) (cond (q y) v 0) 0) (λ p. cond (list_any (λ z. eqb (of z) p && q z) ys) v 0) (range_with_len a n) in
    omega (arith, split, parts, once_at_most (of y) (λ p. cond (q y) v 0) a n, named_by_entries v of q a n ys, sum_by-cons (λ z. cond (q z) v 0) y ys)

-- each entry is one of the numbers in a row, at most
pub entries_by_number : (w : ℕ → ℕ) (zs : List ℕ) (a n : ℕ) → sum_by (λ x. sum_by (λ z. cond (eqb z x) (w x) 0) zs) (range_with_len a n) ≤ sum_by w zs
entries_by_number w [] a n = omega (arith, sum_none (range_with_len a n))
entries_by_number w (z ∷ zs) a n =
    let split = sum_by-le-sum_by (λ x. sum_by (λ y. cond (eqb y x) (w x) 0) (z ∷ zs)) (λ x. cond (eqb z x) (w x) 0 + sum_by (λ y. cond (eqb y x) (w x) 0) zs) (range_with_len a n)
    (λ x. omega (arith, sum_by-cons (λ y. cond (eqb y x) (w x) 0) z zs)) in
    let parts = sum_split (λ x. cond (eqb z x) (w x) 0) (λ x. sum_by (λ y. cond (eqb y x) (w x) 0) zs) (range_with_len a n) in
    omega (arith, split, parts, once_at_most z w a n, entries_by_number w zs a n, sum_by-cons w z zs)
