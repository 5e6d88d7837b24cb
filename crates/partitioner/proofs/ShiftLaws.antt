-- One node's readings moved from one partition to another.
use Rattle.std.proofs.Common.{◌≡◌, ℕ, ◌+◌, ◌*◌, ◌-◌, ◌<◌, ◌≤◌, ◌⊎◌, inl, inr, Bool, true, false, cond, eqb, not, ◌&&◌, ◌||◌, List, [], ◌∷◌, length, refl, sym, ◌∙◌, ap, subst, arith, get_or, set, take}
use Rattle.std.specs.List.{count_by, All}
use Rattle.std.proofs.lemmas.Bool.{cases_eq, cases_Bool, eq-eqb, ne_eqb, ltb-true}
use Rattle.std.proofs.lemmas.List.{get_or-set_same, get_or-set_other}
use Rattle.std.proofs.lemmas.List.Folds.{list_any_more}
use Rattle.std.proofs.lemmas.List.Sums.{sum_by_more, sum_by-take-le, sum_by-cons, count_by-le-length}
use Rattle.flat_net.specs.Net.{Net}
use Rattle.partitioner.specs.Below.{one_if}
use Rattle.node_reads.specs.Sources.{reads_other, other_readers, other_sources, is_wide, wide_sources}
use Rattle.node_reads.specs.Private.Marking.{marked_by_row}
use Rattle.partitioner.specs.Private.Moving.{Shifts}
use Rattle.partitioner.specs.Private.Tracking.{reader_count}
use Rattle.node_reads.proofs.Numbers.{eqb_turned}
use Rattle.partitioner.proofs.BelowLaws.{count_same, one_if_le}
use Rattle.partitioner.proofs.TrackLaws.{related_few}
use Rattle.partitioner.proofs.WideLaws.{count_filtered, wide_marked}
use Rattle.node_reads.proofs.WideRows.{wide_below}
use Rattle.partitioner.proofs.PutLaws.{count_passing}
use Rattle.partitioner.proofs.CountLaws.{any_by_count, count_split, count_single, once_among}

-- a number that stands once in a row does not stand before its place
pub not_before : (row : List ℕ) (j : ℕ) → j < length row → count_by (λ y. eqb y (get_or row j 0)) row ≤ 1 → marked_by_row row j (get_or row j 0) ≡ false
not_before row j l once = go (cases_Bool (marked_by_row row j (get_or row j 0)))
  where
    go : (marked_by_row row j (get_or row j 0) ≡ true) ⊎ (marked_by_row row j (get_or row j 0) ≡ false) → marked_by_row row j (get_or row j 0) ≡ false
    go (inr e) = e
    go (inl e) =
        let some = ltb-true 0 (count_by (λ y. eqb y (get_or row j 0)) (take j row)) (sym (any_by_count (λ y. eqb y (get_or row j 0)) (take j row)) ∙ e) in
        let more = sum_by_more (λ y. one_if (eqb y (get_or row j 0))) row j 0 l in
        let one : one_if (eqb (get_or row j 0) (get_or row j 0)) ≡ 1 = ap one_if (eq-eqb (get_or row j 0) (get_or row j 0) refl) in
        let part = sum_by-take-le (λ y. one_if (eqb y (get_or row j 0))) row (j + 1) in
        absurd (omega (arith, some, more, one, part, once))

-- a node that is not marked yet
pub shift_still : (old now : ℕ → ℕ → ℕ) (marked : ℕ → Bool) (a b x r : ℕ) → Shifts old now marked a b → marked x ≡ false → now x r ≡ old x r
shift_still old now marked a b x r before first =
    let left : one_if (marked x && eqb a r) ≡ 0 = ap (λ (c : Bool). one_if (c && eqb a r)) first in
    let right : one_if (marked x && eqb b r) ≡ 0 = ap (λ (c : Bool). one_if (c && eqb b r)) first in
    omega (arith, before x r, left, right)

-- one more node of the row
pub shift_more : (old now new : ℕ → ℕ → ℕ) (row : List ℕ) (j a b : ℕ) → j < length row → (a ≡ b → ⊥) → marked_by_row row j (get_or row j 0) ≡ false → 0 < old (get_or row j 0) a → Shifts old now (marked_by_row row j) a b → ((z q : ℕ) → new z q ≡ cond (eqb (get_or row j 0) z && eqb b q) (now (get_or row j 0) b + 1) (cond (eqb (get_or row j 0) z && eqb a q) (now (get_or row j 0) a - 1) (now z q))) → Shifts old new (marked_by_row row (j + 1)) a b
shift_more old now new row j a b l apart first some before is = λ z q. at z q (cases_eq (get_or row j 0) z)
  where
    x : ℕ
    x = get_or row j 0

    marks : (z : ℕ) → marked_by_row row (j + 1) z ≡ (marked_by_row row j z || eqb (get_or row j 0) z)
    marks z = list_any_more (λ m. eqb m z) row j 0 l

    or_false : (c : Bool) → (c || false) ≡ c
    or_false true = refl
    or_false false = refl

    elsewhere : (z q : ℕ) → (get_or row j 0 ≡ z → ⊥) → new z q + one_if (marked_by_row row (j + 1) z && eqb a q) ≡ old z q + one_if (marked_by_row row (j + 1) z && eqb b q)
    elsewhere z q ne =
        let same : marked_by_row row (j + 1) z ≡ marked_by_row row j z = marks z ∙ (ap (λ (c : Bool). marked_by_row row j z || c) (ne_eqb (get_or row j 0) z ne) ∙ or_false (marked_by_row row j z)) in
        let value : new z q ≡ now z q = is z q ∙ ap (λ (c : Bool). cond (c && eqb b q) (now (get_or row j 0) b + 1) (cond (c && eqb a q) (now (get_or row j 0) a - 1) (now z q))) (ne_eqb (get_or row j 0) z ne) in
        ap (λ (c : Bool). new z q + one_if (c && eqb a q)) same ∙ (ap (λ (k : ℕ). k + one_if (marked_by_row row j z && eqb a q)) value ∙ (before z q ∙ sym (ap (λ (c : Bool). old z q + one_if (c && eqb b q)) same)))

    still : (r : ℕ) → now (get_or row j 0) r ≡ old (get_or row j 0) r
    still r = shift_still old now (marked_by_row row j) a b (get_or row j 0) r before first

    here : (q : ℕ) → (b ≡ q) ⊎ (b ≡ q → ⊥) → (a ≡ q) ⊎ (a ≡ q → ⊥) → new (get_or row j 0) q + one_if (eqb a q) ≡ old (get_or row j 0) q + one_if (eqb b q)
    here q (inl e) (inl f) = absurd (apart (f ∙ sym e))
    here q (inl e) (inr nf) =
        let value : new (get_or row j 0) q ≡ now (get_or row j 0) b + 1 = is (get_or row j 0) q ∙ (ap (λ (c : Bool). cond (c && eqb b q) (now (get_or row j 0) b + 1) (cond (c && eqb a q) (now (get_or row j 0) a - 1) (now (get_or row j 0) q))) (eq-eqb (get_or row j 0) (get_or row j 0) refl) ∙ ap (λ (c : Bool). cond c (now (get_or row j 0) b + 1) (cond (eqb a q) (now (get_or row j 0) a - 1) (now (get_or row j 0) q))) (eq-eqb b q e)) in
        let was : now (get_or row j 0) b ≡ old (get_or row j 0) b = still b in
        let at : old (get_or row j 0) b ≡ old (get_or row j 0) q = ap (old (get_or row j 0)) e in
        let none : one_if (eqb a q) ≡ 0 = ap one_if (ne_eqb a q nf) in
        let one : one_if (eqb b q) ≡ 1 = ap one_if (eq-eqb b q e) in
        omega (arith, value, was, at, none, one)
    here q (inr ne) which =
        let value : new (get_or row j 0) q ≡ cond (eqb a q) (now (get_or row j 0) a - 1) (now (get_or row j 0) q) = is (get_or row j 0) q ∙ (ap (λ (c : Bool). cond (c && eqb b q) (now (get_or row j 0) b + 1) (cond (c && eqb a q) (now (get_or row j 0) a - 1) (now (get_or row j 0) q))) (eq-eqb (get_or row j 0) (get_or row j 0) refl) ∙ ap (λ (c : Bool). cond c (now (get_or row j 0) b + 1) (cond (eqb a q) (now (get_or row j 0) a - 1) (now (get_or row j 0) q))) (ne_eqb b q ne)) in
        let none : one_if (eqb b q) ≡ 0 = ap one_if (ne_eqb b q ne) in
        go value none which
      where
        go : new (get_or row j 0) q ≡ cond (eqb a q) (now (get_or row j 0) a - 1) (now (get_or row j 0) q) → one_if (eqb b q) ≡ 0 → (a ≡ q) ⊎ (a ≡ q → ⊥) → new (get_or row j 0) q + one_if (eqb a q) ≡ old (get_or row j 0) q + one_if (eqb b q)
        go value none (inl f) =
            let one : one_if (eqb a q) ≡ 1 = ap one_if (eq-eqb a q f) in
            let less : cond (eqb a q) (now (get_or row j 0) a - 1) (now (get_or row j 0) q) ≡ now (get_or row j 0) a - 1 = ap (λ (c : Bool). cond c (now (get_or row j 0) a - 1) (now (get_or row j 0) q)) (eq-eqb a q f) in
            let at : old (get_or row j 0) a ≡ old (get_or row j 0) q = ap (old (get_or row j 0)) f in
            omega (arith, value, none, one, less, at, still a, some)
        go value none (inr nf) =
            let no : one_if (eqb a q) ≡ 0 = ap one_if (ne_eqb a q nf) in
            let same : cond (eqb a q) (now (get_or row j 0) a - 1) (now (get_or row j 0) q) ≡ now (get_or row j 0) q = ap (λ (c : Bool). cond c (now (get_or row j 0) a - 1) (now (get_or row j 0) q)) (ne_eqb a q nf) in
            omega (arith, value, none, no, same, still q)

    at : (z q : ℕ) → (get_or row j 0 ≡ z) ⊎ (get_or row j 0 ≡ z → ⊥) → new z q + one_if (marked_by_row row (j + 1) z && eqb a q) ≡ old z q + one_if (marked_by_row row (j + 1) z && eqb b q)
    at z q (inr ne) = elsewhere z q ne
    at z q (inl e) =
        subst (λ (w : ℕ). new w q + one_if (marked_by_row row (j + 1) w && eqb a q) ≡ old w q + one_if (marked_by_row row (j + 1) w && eqb b q)) e
        (ap (λ (c : Bool). new (get_or row j 0) q + one_if (c && eqb a q)) marked ∙ (here q (cases_eq b q) (cases_eq a q) ∙ sym (ap (λ (c : Bool). old (get_or row j 0) q + one_if (c && eqb b q)) marked)))
      where
        or_true : (c : Bool) → (c || true) ≡ true
        or_true true = refl
        or_true false = refl

        marked : marked_by_row row (j + 1) (get_or row j 0) ≡ true
        marked = marks (get_or row j 0) ∙ (ap (λ (c : Bool). marked_by_row row j (get_or row j 0) || c) (eq-eqb (get_or row j 0) (get_or row j 0) refl) ∙ or_true (marked_by_row row j (get_or row j 0)))

-- before the first
pub shift_none : (old : ℕ → ℕ → ℕ) (row : List ℕ) (a b : ℕ) → Shifts old old (marked_by_row row 0) a b
shift_none old row a b = λ z q. refl

-- a node stands once among those that i reads
source_once : (n : Net) (i x : ℕ) → x < length n.nodes → count_by (λ y. eqb y x) (other_sources n i) ≤ 1
source_once n i x l =
    let listed = count_passing (λ y. reads_other n i y) (λ y. eqb y x) (length n.nodes) in
    let turned = count_same (length n.nodes) (λ y. reads_other n i y && eqb y x) (λ y. reads_other n i y && eqb x y) (λ y h. ap (λ (c : Bool). reads_other n i y && c) (eqb_turned y x)) in
    let single = count_single (length n.nodes) x (λ y. reads_other n i y) l in
    omega (arith, listed, turned, single, one_if_le (reads_other n i x))

-- each wide source stands once in its row
pub wide_once : (n : Net) (i : ℕ) → All (λ x. count_by (λ y. eqb y x) (wide_sources n i) ≤ 1) (wide_sources n i)
wide_once n i = λ k d l.
    let x = get_or (wide_sources n i) k d in
    omega (arith, count_filtered (λ y. eqb y x) (is_wide n) (other_sources n i), source_once n i x (wide_below n i k d l))

-- how the counts of readers change
same_count : (f g : ℕ → Bool) (ys : List ℕ) → ((y : ℕ) → f y ≡ g y) → count_by f ys ≡ count_by g ys
same_count f g [] e = refl
same_count f g (y ∷ ys) e =
    let left = sum_by-cons (λ x. one_if (f x)) y ys in
    let right = sum_by-cons (λ x. one_if (g x)) y ys in
    let here : one_if (f y) ≡ one_if (g y) = ap one_if (e y) in
    omega (arith, left, right, here, same_count f g ys e)

pub reader_count_moved : (n : Net) (of : List ℕ) (i b x q : ℕ) → i < length of → i < length n.nodes → reader_count n (set of i b) x q + one_if (reads_other n i x && eqb (get_or of i 0) q) ≡ reader_count n of x q + one_if (reads_other n i x && eqb b q)
unfolding reader_count
reader_count_moved n of i b x q l l' =
    let old = count_split (λ y. eqb (get_or of y 0) q) i (other_readers n x) in
    let new = count_split (λ y. eqb (get_or (set of i b) y 0) q) i (other_readers n x) in
    let others = same_count (λ y. not (eqb i y) && eqb (get_or (set of i b) y 0) q) (λ y. not (eqb i y) && eqb (get_or of y 0) q) (other_readers n x) (λ y. at y (cases_eq i y)) in
    let once = once_among n i x l' in
    let old_own : count_by (λ y. eqb i y) (other_readers n x) * one_if (eqb (get_or of i 0) q) ≡ one_if (reads_other n i x && eqb (get_or of i 0) q) = ap (λ (k : ℕ). k * one_if (eqb (get_or of i 0) q)) once ∙ product (reads_other n i x) (eqb (get_or of i 0) q) in
    let new_own : count_by (λ y. eqb i y) (other_readers n x) * one_if (eqb (get_or (set of i b) i 0) q) ≡ one_if (reads_other n i x && eqb b q) = ap (λ (k : ℕ). k * one_if (eqb (get_or (set of i b) i 0) q)) once ∙ (product (reads_other n i x) (eqb (get_or (set of i b) i 0) q) ∙ ap (λ (z : ℕ). one_if (reads_other n i x && eqb z q)) (get_or-set_same of i b 0 l)) in
    omega (arith, old, new, others, old_own, new_own)
  where
    product : (c d : Bool) → one_if c * one_if d ≡ one_if (c && d)
    product true true = refl
    product true false = refl
    product false true = refl
    product false false = refl

    at : (y : ℕ) → (i ≡ y) ⊎ (i ≡ y → ⊥) → (not (eqb i y) && eqb (get_or (set of i b) y 0) q) ≡ (not (eqb i y) && eqb (get_or of y 0) q)
    at y (inl e) = ap (λ (c : Bool). not c && eqb (get_or (set of i b) y 0) q) (eq-eqb i y e) ∙ sym (ap (λ (c : Bool). not c && eqb (get_or of y 0) q) (eq-eqb i y e))
    at y (inr ne) = ap (λ (z : ℕ). not (eqb i y) && eqb z q) (get_or-set_other of i y b 0 (λ e. ne (sym e)))

-- so counts that shift stay right
pub counts_moved : (n : Net) (of : List ℕ) (i b x q : ℕ) (old new : ℕ → ℕ → ℕ) → i < length of → i < length n.nodes → x < length n.nodes → is_wide n x ≡ true → old x q ≡ reader_count n of x q → Shifts old new (marked_by_row (wide_sources n i) (length (wide_sources n i))) (get_or of i 0) b → new x q ≡ reader_count n (set of i b) x q
counts_moved n of i b x q old new l l' m wide was shifts =
    let marked = wide_marked n i x m wide in
    let moved = reader_count_moved n of i b x q l l' in
    let left : one_if (marked_by_row (wide_sources n i) (length (wide_sources n i)) x && eqb (get_or of i 0) q) ≡ one_if (reads_other n i x && eqb (get_or of i 0) q) = ap (λ (c : Bool). one_if (c && eqb (get_or of i 0) q)) marked in
    let right : one_if (marked_by_row (wide_sources n i) (length (wide_sources n i)) x && eqb b q) ≡ one_if (reads_other n i x && eqb b q) = ap (λ (c : Bool). one_if (c && eqb b q)) marked in
    omega (arith, shifts x q, moved, left, right, was)

pub source_counted : (n : Net) (of : List ℕ) (i x : ℕ) → i < length n.nodes → reads_other n i x ≡ true → 0 < reader_count n of x (get_or of i 0)
unfolding reader_count
source_counted n of i x l reads =
    let split = count_split (λ y. eqb (get_or of y 0) (get_or of i 0)) i (other_readers n x) in
    let once : count_by (λ y. eqb i y) (other_readers n x) ≡ 1 = once_among n i x l ∙ ap one_if reads in
    let one : one_if (eqb (get_or of i 0) (get_or of i 0)) ≡ 1 = ap one_if (eq-eqb (get_or of i 0) (get_or of i 0) refl) in
    let product : count_by (λ y. eqb i y) (other_readers n x) * one_if (eqb (get_or of i 0) (get_or of i 0)) ≡ 1 = ap (λ (k : ℕ). k * one_if (eqb (get_or of i 0) (get_or of i 0))) once ∙ one_times (one_if (eqb (get_or of i 0) (get_or of i 0))) one in
    omega (arith, split, product)
  where
    one_times : (b : ℕ) → b ≡ 1 → 1 * b ≡ 1
    one_times b e = omega (arith, e)

pub readers_within : (n : Net) (of : List ℕ) (x q : ℕ) → reader_count n of x q ≤ length n.nodes
unfolding reader_count
readers_within n of x q = omega (arith, count_by-le-length (λ y. eqb (get_or of y 0) q) (other_readers n x), related_few (reads_other n) (length n.nodes) x)
