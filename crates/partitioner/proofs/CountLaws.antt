-- Tests of rows by the counts of readers.
use Rattle.std.proofs.Common.{◌≡◌, ℕ, zero, suc, ◌+◌, ◌*◌, ◌<◌, ◌≤◌, ◌⊎◌, inl, inr, Bool, true, false, cond, eqb, ltb, not, ◌&&◌, ◌||◌, List, [], ◌∷◌, length, refl, sym, ◌∙◌, ap, arith, get_or}
use Rattle.std.specs.List.{list_any, count_by}
use Rattle.std.proofs.lemmas.Bool.{cases_eq, cases_lt, eq-eqb, ne_eqb, lt-ltb}
use Rattle.std.proofs.lemmas.List.Sums.{sum_by-cons}
use Rattle.flat_net.specs.Net.{Net}
use Rattle.partitioner.specs.Below.{one_if, count_below}
use Rattle.node_reads.specs.Sources.{reads_other, other_readers, is_wide}
use Rattle.partitioner.specs.Private.Loss.{is_fresh}
use Rattle.partitioner.specs.Private.Marks.{is_marked}
use Rattle.partitioner.specs.Private.Tracking.{AreMarks, reader_count}
use Rattle.partitioner.proofs.PutLaws.{count_passing}

pub any_by_count : (f : ℕ → Bool) (ys : List ℕ) → list_any f ys ≡ ltb 0 (count_by f ys)
any_by_count f [] = refl
any_by_count f (y ∷ ys) = go (f y) refl (any_by_count f ys)
  where
    more : count_by f (y ∷ ys) ≡ one_if (f y) + count_by f ys
    more = sum_by-cons (λ x. cond (f x) 1 0) y ys

    go : (b : Bool) → f y ≡ b → list_any f ys ≡ ltb 0 (count_by f ys) → (f y || list_any f ys) ≡ ltb 0 (count_by f (y ∷ ys))
    go true e before =
        let one : one_if (f y) ≡ 1 = ap one_if e in
        ap (λ (b : Bool). b || list_any f ys) e ∙ sym (lt-ltb 0 (count_by f (y ∷ ys)) (omega (arith, more, one)))
    go false e before =
        let none : one_if (f y) ≡ 0 = ap one_if e in
        let same : count_by f (y ∷ ys) ≡ count_by f ys = omega (arith, more, none) in
        ap (λ (b : Bool). b || list_any f ys) e ∙ (before ∙ ap (ltb 0) (sym same))

-- those that are i, and the others
pub count_split : (f : ℕ → Bool) (i : ℕ) (ys : List ℕ) → count_by f ys ≡ count_by (λ y. not (eqb i y) && f y) ys + count_by (λ y. eqb i y) ys * one_if (f i)
count_split f i [] = omega arith
count_split f i (y ∷ ys) = go (cases_eq i y) (count_split f i ys)
  where
    go : (i ≡ y) ⊎ (i ≡ y → ⊥) → count_by f ys ≡ count_by (λ y. not (eqb i y) && f y) ys + count_by (λ y. eqb i y) ys * one_if (f i) → count_by f (y ∷ ys) ≡ count_by (λ y. not (eqb i y) && f y) (y ∷ ys) + count_by (λ y. eqb i y) (y ∷ ys) * one_if (f i)
    go (inl e) before =
        let all = sum_by-cons (λ x. cond (f x) 1 0) y ys in
        let others = sum_by-cons (λ x. cond (not (eqb i x) && f x) 1 0) y ys in
        let itself = sum_by-cons (λ x. cond (eqb i x) 1 0) y ys in
        let none : one_if (not (eqb i y) && f y) ≡ 0 = ap (λ (b : Bool). one_if (not b && f y)) (eq-eqb i y e) in
        let one : one_if (eqb i y) ≡ 1 = ap one_if (eq-eqb i y e) in
        let same : one_if (f y) ≡ one_if (f i) = ap (λ (z : ℕ). one_if (f z)) (sym e) in
        let product : count_by (λ y. eqb i y) (y ∷ ys) * one_if (f i) ≡ one_if (f i) + count_by (λ y. eqb i y) ys * one_if (f i) =
        ap (λ (k : ℕ). k * one_if (f i)) (itself ∙ ap (λ (k : ℕ). k + count_by (λ y. eqb i y) ys) one) ∙ one_and (count_by (λ y. eqb i y) ys) (one_if (f i)) in
        omega (arith, all, others, none, same, product, before)
      where
        one_and : (a b : ℕ) → (1 + a) * b ≡ b + a * b
        one_and a b = omega arith
    go (inr ne) before =
        let all = sum_by-cons (λ x. cond (f x) 1 0) y ys in
        let others = sum_by-cons (λ x. cond (not (eqb i x) && f x) 1 0) y ys in
        let itself = sum_by-cons (λ x. cond (eqb i x) 1 0) y ys in
        let kept : one_if (not (eqb i y) && f y) ≡ one_if (f y) = ap (λ (b : Bool). one_if (not b && f y)) (ne_eqb i y ne) in
        let none : one_if (eqb i y) ≡ 0 = ap one_if (ne_eqb i y ne) in
        let product : count_by (λ y. eqb i y) (y ∷ ys) * one_if (f i) ≡ count_by (λ y. eqb i y) ys * one_if (f i) =
        ap (λ (k : ℕ). k * one_if (f i)) (itself ∙ (ap (λ (k : ℕ). k + count_by (λ y. eqb i y) ys) none ∙ none_and (count_by (λ y. eqb i y) ys))) in
        omega (arith, all, others, kept, product, before)
      where
        none_and : (a : ℕ) → 0 + a ≡ a
        none_and a = omega arith

-- one number counts once
pub count_single : (k i : ℕ) (p : ℕ → Bool) → i < k → count_below k (λ x. p x && eqb i x) ≡ one_if (p i)
unfolding count_below
count_single zero i p l = absurd (omega arith)
count_single (suc k) i p l = go (cases_eq i k) (λ h. count_single k i p h)
  where
    no : (b : Bool) → one_if (b && false) ≡ 0
    no true = refl
    no false = refl

    yes : (b : Bool) → one_if (b && true) ≡ one_if b
    yes true = refl
    yes false = refl

    zeros : (m : ℕ) → m ≤ i → count_below m (λ x. p x && eqb i x) ≡ 0
    zeros zero h = refl
    zeros (suc m) h = let none = zeros m (omega (arith, h)) in let here : one_if (p m && eqb i m) ≡ 0 = ap (λ (b : Bool). one_if (p m && b)) (ne_eqb i m (λ e. omega (arith, e, h))) ∙ no (p m) in omega (arith, none, here)

    go : (i ≡ k) ⊎ (i ≡ k → ⊥) → (i < k → count_below k (λ x. p x && eqb i x) ≡ one_if (p i)) → count_below k (λ x. p x && eqb i x) + one_if (p k && eqb i k) ≡ one_if (p i)
    go (inl e) before =
        let here : one_if (p k && eqb i k) ≡ one_if (p k) = ap (λ (b : Bool). one_if (p k && b)) (eq-eqb i k e) ∙ yes (p k) in
        let same : one_if (p k) ≡ one_if (p i) = ap (λ (x : ℕ). one_if (p x)) (sym e) in
        omega (arith, zeros k (omega (arith, e)), here, same)
    go (inr ne) before =
        let here : one_if (p k && eqb i k) ≡ 0 = ap (λ (b : Bool). one_if (p k && b)) (ne_eqb i k ne) ∙ no (p k) in
        omega (arith, before (omega (arith, ne, l)), here)

-- node i is once among the other readers of what it reads
pub once_among : (n : Net) (i x : ℕ) → i < length n.nodes → count_by (λ y. eqb i y) (other_readers n x) ≡ one_if (reads_other n i x)
once_among n i x l = count_passing (λ y. reads_other n y x) (λ y. eqb i y) (length n.nodes) ∙ count_single (length n.nodes) i (λ y. reads_other n y x) l

-- without node i there are none exactly where the count is i's own
pub fresh_by_count : (n : Net) (of : List ℕ) (i x q mine : ℕ) → i < length n.nodes → reads_other n i x ≡ true → mine ≡ one_if (eqb (get_or of i 0) q) → is_fresh n of i x q ≡ (not (eqb (get_or of x 0) q) && eqb (reader_count n of x q) mine)
unfolding reader_count
fresh_by_count n of i x q mine l reads own =
    ap (λ (b : Bool). not (eqb (get_or of x 0) q) && b) (ap not (any_by_count (λ y. not (eqb i y) && eqb (get_or of y 0) q) (other_readers n x)) ∙ tested)
  where
    tested : not (ltb 0 (count_by (λ y. not (eqb i y) && eqb (get_or of y 0) q) (other_readers n x))) ≡ eqb (count_by (λ y. eqb (get_or of y 0) q) (other_readers n x)) mine
    tested =
        let split = count_split (λ y. eqb (get_or of y 0) q) i (other_readers n x) in
        let once : count_by (λ y. eqb i y) (other_readers n x) ≡ 1 = once_among n i x l ∙ ap one_if reads in
        let product : count_by (λ y. eqb i y) (other_readers n x) * one_if (eqb (get_or of i 0) q) ≡ one_if (eqb (get_or of i 0) q) = ap (λ (k : ℕ). k * one_if (eqb (get_or of i 0) q)) once ∙ one_times (one_if (eqb (get_or of i 0) q)) in
        either (count_by (λ y. not (eqb i y) && eqb (get_or of y 0) q) (other_readers n x)) (count_by (λ y. eqb (get_or of y 0) q) (other_readers n x)) mine (omega (arith, split, product, own))
      where
        one_times : (b : ℕ) → 1 * b ≡ b
        one_times b = omega arith

        either : (a b m : ℕ) → b ≡ a + m → not (ltb 0 a) ≡ eqb b m
        either zero b m e = sym (eq-eqb b m (omega (arith, e)))
        either (suc a) b m e = ap not (lt-ltb 0 (suc a) (omega arith)) ∙ sym (ne_eqb b m (λ h. omega (arith, e, h)))

-- a wide node is read by no other where it is not marked
pub unread_where_unmarked : (n : Net) (of : List ℕ) (count : ℕ) (marks : List (List ℕ)) (x q : ℕ) → AreMarks n of count marks → x < length n.nodes → q < count → is_wide n x ≡ true → is_marked marks x q ≡ false → reader_count n of x q ≡ 0
unread_where_unmarked n of count marks x q are l k wide clear = go (cases_lt 0 (reader_count n of x q))
  where
    go : (0 < reader_count n of x q) ⊎ (reader_count n of x q ≤ 0) → reader_count n of x q ≡ 0
    go (inl some) = let marked = are.marked x q l k wide (inr some) in absurd cc
    go (inr none) = omega (arith, none)
