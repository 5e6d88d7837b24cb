-- The cost where one node is put into another partition.
use Rattle.std.proofs.Common.{◌≡◌, ℕ, zero, suc, ◌+◌, ◌<◌, ◌⊎◌, inl, inr, Bool, true, false, cond, eqb, not, ◌&&◌, ◌||◌, List, [], ◌∷◌, length, refl, sym, ◌∙◌, ap, subst, arith, get_or, set}
use Rattle.std.specs.List.{range_with_len, filter, list_any, count_by}
use Rattle.std.proofs.lemmas.Bool.{cases_eq, eq-eqb, ne_eqb}
use Rattle.std.proofs.lemmas.List.{get_or-set_same, get_or-set_other, set-get_or}
use Rattle.std.proofs.lemmas.List.Sums.{sum_by-append}
use Rattle.flat_net.specs.Net.{Net}
use Rattle.tmr_base.specs.Parts.{PlainParts}
use Rattle.partitioner.specs.Below.{sum_below, one_if, count_below}
use Rattle.node_reads.specs.Reading.{reads}
use Rattle.node_reads.specs.Sources.{reads_other, other_readers}
use Rattle.partitioner.specs.Cost.{foreign_count, cost, is_read_in}
use Rattle.partitioner.specs.Private.Loss.{is_kept, is_fresh, is_wanted, loss}
use Rattle.partitioner.specs.Refining.{put}
use Rattle.node_reads.proofs.Numbers.{passing_more, any_passing, eqb_turned}
use Rattle.partitioner.proofs.BelowLaws.{count_same, count_changed, one_of_two, sum_same, sum_balanced, sum_zero}
use Rattle.partitioner.proofs.CostLaws.{met_is}

-- who stands in p after i is put into b
any_put_step : (of : List ℕ) (i b p y : ℕ) (kept there : Bool) → i < length of → (eqb (get_or (set of i b) y 0) p || (kept || (there && eqb b p))) ≡ (((not (eqb i y) && eqb (get_or of y 0) p) || kept) || ((eqb i y || there) && eqb b p))
any_put_step of i b p y kept there l = go (cases_eq i y)
  where
    moved : (e k t : Bool) → (e || (k || (t && e))) ≡ (k || e)
    moved true true true = refl
    moved true true false = refl
    moved true false true = refl
    moved true false false = refl
    moved false true true = refl
    moved false true false = refl
    moved false false true = refl
    moved false false false = refl

    stays : (e k t f : Bool) → (e || (k || (t && f))) ≡ ((e || k) || (t && f))
    stays true k t f = refl
    stays false k t f = refl

    go : (i ≡ y) ⊎ (i ≡ y → ⊥) → (eqb (get_or (set of i b) y 0) p || (kept || (there && eqb b p))) ≡ (((not (eqb i y) && eqb (get_or of y 0) p) || kept) || ((eqb i y || there) && eqb b p))
    go (inl e) =
        let at : get_or (set of i b) y 0 ≡ b = subst (λ (z : ℕ). get_or (set of i b) z 0 ≡ b) e (get_or-set_same of i b 0 l) in
        ap (λ (z : ℕ). eqb z p || (kept || (there && eqb b p))) at
        ∙ (moved (eqb b p) kept there ∙ sym (ap (λ (c : Bool). ((not c && eqb (get_or of y 0) p) || kept) || ((c || there) && eqb b p)) (eq-eqb i y e)))
    go (inr ne) =
        let at : get_or (set of i b) y 0 ≡ get_or of y 0 = get_or-set_other of i y b 0 (λ e. ne (sym e)) in
        ap (λ (z : ℕ). eqb z p || (kept || (there && eqb b p))) at
        ∙ (stays (eqb (get_or of y 0) p) kept there (eqb b p) ∙ sym (ap (λ (c : Bool). ((not c && eqb (get_or of y 0) p) || kept) || ((c || there) && eqb b p)) (ne_eqb i y ne)))

any_put : (of : List ℕ) (i b p : ℕ) (ys : List ℕ) → i < length of → list_any (λ y. eqb (get_or (set of i b) y 0) p) ys ≡ (list_any (λ y. not (eqb i y) && eqb (get_or of y 0) p) ys || (list_any (λ y. eqb i y) ys && eqb b p))
any_put of i b p [] l = refl
any_put of i b p (y ∷ ys) l =
    ap (λ (c : Bool). eqb (get_or (set of i b) y 0) p || c) (any_put of i b p ys l)
    ∙ any_put_step of i b p y (list_any (λ y. not (eqb i y) && eqb (get_or of y 0) p) ys) (list_any (λ y. eqb i y) ys) l

-- the two ways to write the test
any_turned : (i : ℕ) (ys : List ℕ) → list_any (λ y. eqb i y) ys ≡ list_any (λ y. eqb y i) ys
any_turned i [] = refl
any_turned i (y ∷ ys) = ap (λ (c : Bool). c || list_any (λ y. eqb i y) ys) (eqb_turned i y) ∙ ap (λ (c : Bool). eqb y i || c) (any_turned i ys)

-- node i is among the other readers of x exactly where it reads x
is_among : (n : Net) (i x : ℕ) → i < length n.nodes → list_any (λ y. eqb i y) (other_readers n x) ≡ reads_other n i x
is_among n i x l = any_turned i (other_readers n x) ∙ any_passing (λ y. reads_other n y x) (length n.nodes) i l

-- where the node reads itself is no matter
foreign_others : (n : Net) (parts : PlainParts) (x : ℕ) → foreign_count n parts x ≡ count_below parts.count (λ p. not (eqb (get_or parts.of x 0) p) && list_any (λ y. eqb (get_or parts.of y 0) p) (other_readers n x))
unfolding foreign_count
foreign_others n parts x = count_same parts.count (λ p. not (eqb (get_or parts.of x 0) p) && is_read_in n parts.of x p) (λ p. not (eqb (get_or parts.of x 0) p) && list_any (λ y. eqb (get_or parts.of y 0) p) (other_readers n x)) (λ p l. sym (met_is n parts.of x p))

-- how many pairs node x is in without what node i does
unfoldable base_at : Net → PlainParts → ℕ → ℕ → ℕ
base_at n parts i x = cond (eqb i x) (count_below parts.count (is_wanted n parts.of i)) (count_below parts.count (λ p. not (eqb (get_or parts.of x 0) p) && is_kept n parts.of i x p))

-- and how many more there are for x where i stands in b
unfoldable loss_at : Net → PlainParts → ℕ → ℕ → ℕ → ℕ
loss_at n parts i b x = cond (eqb i x) (one_if (not (is_wanted n parts.of i b))) (one_if (reads_other n i x && is_fresh n parts.of i x b))

-- the pairs of x before i is put, without it, and after
without : Net → PlainParts → ℕ → ℕ → ℕ → Bool
without n parts i x p = not (eqb (get_or parts.of x 0) p) && is_kept n parts.of i x p

after_put : Net → PlainParts → ℕ → ℕ → ℕ → ℕ → Bool
after_put n parts i b x p = not (eqb (get_or parts.of x 0) p) && (is_kept n parts.of i x p || (reads_other n i x && eqb b p))

or_no : (k r : Bool) → (k || (r && false)) ≡ k
or_no true true = refl
or_no true false = refl
or_no false true = refl
or_no false false = refl

one_more : (o k r : Bool) → one_if (not o && (k || (r && true))) ≡ one_if (not o && k) + one_if (r && (not o && not k))
one_more true true true = refl
one_more true true false = refl
one_more true false true = refl
one_more true false false = refl
one_more false true true = refl
one_more false true false = refl
one_more false false true = refl
one_more false false false = refl

after_is : (n : Net) (parts : PlainParts) (i b x p : ℕ) → i < length parts.of → i < length n.nodes → (i ≡ x → ⊥) → (not (eqb (get_or (set parts.of i b) x 0) p) && list_any (λ y. eqb (get_or (set parts.of i b) y 0) p) (other_readers n x)) ≡ after_put n parts i b x p
unfolding after_put
after_is n parts i b x p l l' ne =
    let own : get_or (set parts.of i b) x 0 ≡ get_or parts.of x 0 = get_or-set_other parts.of i x b 0 (λ e. ne (sym e)) in
    ap (λ (z : ℕ). not (eqb z p) && list_any (λ y. eqb (get_or (set parts.of i b) y 0) p) (other_readers n x)) own
    ∙ ap (λ (c : Bool). not (eqb (get_or parts.of x 0) p) && c)
    (any_put parts.of i b p (other_readers n x) l ∙ ap (λ (c : Bool). is_kept n parts.of i x p || (c && eqb b p)) (is_among n i x l'))

foreign_put_other : (n : Net) (parts : PlainParts) (i b x : ℕ) → i < length parts.of → i < length n.nodes → b < parts.count → (i ≡ x → ⊥) → foreign_count n (put parts i b) x ≡ count_below parts.count (without n parts i x) + one_if (reads_other n i x && is_fresh n parts.of i x b)
unfolding without after_put
foreign_put_other n parts i b x l l' within ne =
    let counted : foreign_count n (put parts i b) x ≡ count_below parts.count (after_put n parts i b x) = foreign_others n (put parts i b) x ∙ count_same parts.count (λ p. not (eqb (get_or (set parts.of i b) x 0) p) && list_any (λ y. eqb (get_or (set parts.of i b) y 0) p) (other_readers n x)) (after_put n parts i b x) (λ p h. after_is n parts i b x p l l' ne) in
    let balance = count_changed parts.count b (without n parts i x) (after_put n parts i b x) within (λ p h other. sym (ap (λ (c : Bool). not (eqb (get_or parts.of x 0) p) && (is_kept n parts.of i x p || (reads_other n i x && c))) (ne_eqb b p (λ e. other (sym e))) ∙ ap (λ (c : Bool). not (eqb (get_or parts.of x 0) p) && c) (or_no (is_kept n parts.of i x p) (reads_other n i x)))) in
    let here : one_if (after_put n parts i b x b) ≡ one_if (without n parts i x b) + one_if (reads_other n i x && is_fresh n parts.of i x b) =
    ap (λ (c : Bool). one_if (not (eqb (get_or parts.of x 0) b) && (is_kept n parts.of i x b || (reads_other n i x && c)))) (eq-eqb b b refl) ∙ one_more (eqb (get_or parts.of x 0) b) (is_kept n parts.of i x b) (reads_other n i x) in
    omega (arith, counted, balance, here)

not_itself : (n : Net) (i : ℕ) → reads_other n i i ≡ false
not_itself n i = ap (λ (c : Bool). not c && reads n i i) (eq-eqb i i refl)

-- the other readers of i are not i
wanted_still : (n : Net) (parts : PlainParts) (i b p : ℕ) → i < length parts.of → i < length n.nodes → list_any (λ y. eqb (get_or (set parts.of i b) y 0) p) (other_readers n i) ≡ is_wanted n parts.of i p
wanted_still n parts i b p l l' =
    any_put parts.of i b p (other_readers n i) l
    ∙ (ap (λ (c : Bool). is_kept n parts.of i i p || (c && eqb b p)) none
    ∙ (ap (λ (c : Bool). is_kept n parts.of i i p || (c && eqb (get_or parts.of i 0) p)) (sym none)
    ∙ (sym (any_put parts.of i (get_or parts.of i 0) p (other_readers n i) l)
    ∙ ap (λ (of : List ℕ). list_any (λ y. eqb (get_or of y 0) p) (other_readers n i)) (set-get_or parts.of i 0))))
  where
    none : list_any (λ y. eqb i y) (other_readers n i) ≡ false
    none = is_among n i i l' ∙ not_itself n i

foreign_put_same : (n : Net) (parts : PlainParts) (i b : ℕ) → i < length parts.of → i < length n.nodes → b < parts.count → foreign_count n (put parts i b) i + 1 ≡ count_below parts.count (is_wanted n parts.of i) + one_if (not (is_wanted n parts.of i b))
foreign_put_same n parts i b l l' within =
    let counted : foreign_count n (put parts i b) i ≡ count_below parts.count (λ p. not (eqb b p) && is_wanted n parts.of i p) =
    foreign_others n (put parts i b) i ∙ count_same parts.count (λ p. not (eqb (get_or (set parts.of i b) i 0) p) && list_any (λ y. eqb (get_or (set parts.of i b) y 0) p) (other_readers n i)) (λ p. not (eqb b p) && is_wanted n parts.of i p)
    (λ p h. ap (λ (z : ℕ). not (eqb z p) && list_any (λ y. eqb (get_or (set parts.of i b) y 0) p) (other_readers n i)) (get_or-set_same parts.of i b 0 l) ∙ ap (λ (c : Bool). not (eqb b p) && c) (wanted_still n parts i b p l l')) in
    let balance = count_changed parts.count b (λ p. not (eqb b p) && is_wanted n parts.of i p) (is_wanted n parts.of i) within (λ p h other. ap (λ (c : Bool). not c && is_wanted n parts.of i p) (ne_eqb b p (λ e. other (sym e)))) in
    let here : one_if (not (eqb b b) && is_wanted n parts.of i b) ≡ 0 = ap (λ (c : Bool). one_if (not c && is_wanted n parts.of i b)) (eq-eqb b b refl) in
    omega (arith, counted, balance, here, one_of_two (is_wanted n parts.of i b))

foreign_put : (n : Net) (parts : PlainParts) (i b x : ℕ) → i < length parts.of → i < length n.nodes → b < parts.count → foreign_count n (put parts i b) x + one_if (eqb i x) ≡ base_at n parts i x + loss_at n parts i b x
unfolding base_at loss_at without
foreign_put n parts i b x l l' within = go (cases_eq i x)
  where
    go : (i ≡ x) ⊎ (i ≡ x → ⊥) → foreign_count n (put parts i b) x + one_if (eqb i x) ≡ base_at n parts i x + loss_at n parts i b x
    go (inl e) =
        let is : eqb i x ≡ true = eq-eqb i x e in
        let at : foreign_count n (put parts i b) x + 1 ≡ count_below parts.count (is_wanted n parts.of i) + one_if (not (is_wanted n parts.of i b)) =
        subst (λ (z : ℕ). foreign_count n (put parts i b) z + 1 ≡ count_below parts.count (is_wanted n parts.of i) + one_if (not (is_wanted n parts.of i b))) e (foreign_put_same n parts i b l l' within) in
        let one : one_if (eqb i x) ≡ 1 = ap one_if is in
        let base : base_at n parts i x ≡ count_below parts.count (is_wanted n parts.of i) = ap (λ (c : Bool). cond c (count_below parts.count (is_wanted n parts.of i)) (count_below parts.count (without n parts i x))) is in
        let more : loss_at n parts i b x ≡ one_if (not (is_wanted n parts.of i b)) = ap (λ (c : Bool). cond c (one_if (not (is_wanted n parts.of i b))) (one_if (reads_other n i x && is_fresh n parts.of i x b))) is in
        omega (arith, at, one, base, more)
    go (inr ne) =
        let is : eqb i x ≡ false = ne_eqb i x ne in
        let at = foreign_put_other n parts i b x l l' within ne in
        let one : one_if (eqb i x) ≡ 0 = ap one_if is in
        let base : base_at n parts i x ≡ count_below parts.count (without n parts i x) = ap (λ (c : Bool). cond c (count_below parts.count (is_wanted n parts.of i)) (count_below parts.count (without n parts i x))) is in
        let more : loss_at n parts i b x ≡ one_if (reads_other n i x && is_fresh n parts.of i x b) = ap (λ (c : Bool). cond c (one_if (not (is_wanted n parts.of i b))) (one_if (reads_other n i x && is_fresh n parts.of i x b))) is in
        omega (arith, at, one, base, more)

-- sums at one number, and over those that pass
single : (k i c : ℕ) → i < k → sum_below k (λ x. cond (eqb i x) c 0) ≡ c
unfolding sum_below
single zero i c l = absurd (omega arith)
single (suc k) i c l = go (cases_eq i k) (λ h. single k i c h)
  where
    go : (i ≡ k) ⊎ (i ≡ k → ⊥) → (i < k → sum_below k (λ x. cond (eqb i x) c 0) ≡ c) → sum_below k (λ x. cond (eqb i x) c 0) + cond (eqb i k) c 0 ≡ c
    go (inl e) before =
        let rest : sum_below k (λ x. cond (eqb i x) c 0) ≡ sum_below k (λ x. 0) = sum_same k (λ x. cond (eqb i x) c 0) (λ x. 0) (λ x h. ap (λ (b : Bool). cond b c 0) (ne_eqb i x (λ q. omega (arith, q, e, h)))) in
        let here : cond (eqb i k) c 0 ≡ c = ap (λ (b : Bool). cond b c 0) (eq-eqb i k e) in
        omega (arith, rest, sum_zero k, here)
    go (inr ne) before =
        let here : cond (eqb i k) c 0 ≡ 0 = ap (λ (b : Bool). cond b c 0) (ne_eqb i k ne) in
        omega (arith, before (omega (arith, ne, l)), here)

pub count_passing : (q f : ℕ → Bool) (k : ℕ) → count_by f (filter q (range_with_len 0 k)) ≡ count_below k (λ x. q x && f x)
unfolding count_below
count_passing q f zero = refl
count_passing q f (suc k) =
    let more : count_by f (filter q (range_with_len 0 (suc k))) ≡ count_by f (filter q (range_with_len 0 k)) + count_by f (cond (q k) (k ∷ []) []) = ap (count_by f) (passing_more q k) ∙ sum_by-append (λ x. cond (f x) 1 0) (filter q (range_with_len 0 k)) (cond (q k) (k ∷ []) []) in
    let last : count_by f (cond (q k) (k ∷ []) []) ≡ one_if (q k && f k) = at (q k) in
    omega (arith, more, last, count_passing q f k)
  where
    at : (b : Bool) → count_by f (cond b (k ∷ []) []) ≡ one_if (b && f k)
    at true = omega arith
    at false = refl

counted_sum : (k : ℕ) (p : ℕ → Bool) → sum_below k (λ x. one_if (p x)) ≡ count_below k p
unfolding sum_below count_below
counted_sum zero p = refl
counted_sum (suc k) p = ap (λ (m : ℕ). m + one_if (p k)) (counted_sum k p)

loss_sum : (n : Net) (parts : PlainParts) (i b : ℕ) → i < length n.nodes → sum_below (length n.nodes) (loss_at n parts i b) ≡ loss n parts.of i b
unfolding loss loss_at
loss_sum n parts i b l =
    let parted = sum_balanced (length n.nodes) (loss_at n parts i b) (λ x. 0) (λ x. cond (eqb i x) (one_if (not (is_wanted n parts.of i b))) 0) (λ x. one_if (reads_other n i x && is_fresh n parts.of i x b)) (λ x h. at x (cases_eq i x)) in
    let own = single (length n.nodes) i (one_if (not (is_wanted n parts.of i b))) l in
    let rest = counted_sum (length n.nodes) (λ x. reads_other n i x && is_fresh n parts.of i x b) in
    let listed = count_passing (λ x. reads_other n i x) (λ x. is_fresh n parts.of i x b) (length n.nodes) in
    omega (arith, parted, own, rest, listed, sum_zero (length n.nodes))
  where
    at : (x : ℕ) → (i ≡ x) ⊎ (i ≡ x → ⊥) → loss_at n parts i b x + 0 ≡ cond (eqb i x) (one_if (not (is_wanted n parts.of i b))) 0 + one_if (reads_other n i x && is_fresh n parts.of i x b)
    at x (inl e) =
        let is : eqb i x ≡ true = eq-eqb i x e in
        let none : one_if (reads_other n i x && is_fresh n parts.of i x b) ≡ 0 = ap (λ (c : Bool). one_if ((not c && reads n i x) && is_fresh n parts.of i x b)) (eq-eqb x i (sym e)) in
        let left : loss_at n parts i b x ≡ one_if (not (is_wanted n parts.of i b)) = ap (λ (c : Bool). cond c (one_if (not (is_wanted n parts.of i b))) (one_if (reads_other n i x && is_fresh n parts.of i x b))) is in
        let right : cond (eqb i x) (one_if (not (is_wanted n parts.of i b))) 0 ≡ one_if (not (is_wanted n parts.of i b)) = ap (λ (c : Bool). cond c (one_if (not (is_wanted n parts.of i b))) 0) is in
        omega (arith, none, left, right)
    at x (inr ne) =
        let is : eqb i x ≡ false = ne_eqb i x ne in
        let left : loss_at n parts i b x ≡ one_if (reads_other n i x && is_fresh n parts.of i x b) = ap (λ (c : Bool). cond c (one_if (not (is_wanted n parts.of i b))) (one_if (reads_other n i x && is_fresh n parts.of i x b))) is in
        let right : cond (eqb i x) (one_if (not (is_wanted n parts.of i b))) 0 ≡ 0 = ap (λ (c : Bool). cond c (one_if (not (is_wanted n parts.of i b))) 0) is in
        omega (arith, left, right)

-- the cost without what node i does
pub base : Net → PlainParts → ℕ → ℕ
base n parts i = sum_below (length n.nodes) (base_at n parts i)

-- the cost where node i stands in partition b, and one more, is that and the loss there
pub cost_put : (n : Net) (parts : PlainParts) (i b : ℕ) → length parts.of ≡ length n.nodes → i < length n.nodes → b < parts.count → cost n (put parts i b) + 1 ≡ base n parts i + loss n parts.of i b
unfolding base cost
cost_put n parts i b long l within =
    let balance = sum_balanced (length n.nodes) (foreign_count n (put parts i b)) (λ x. one_if (eqb i x)) (base_at n parts i) (loss_at n parts i b) (λ x h. foreign_put n parts i b x (omega arith) l within) in
    omega (arith, balance, single (length n.nodes) i 1 l, loss_sum n parts i b l)

-- now too
pub put_same : (parts : PlainParts) (i : ℕ) → put parts i (get_or parts.of i 0) ≡ parts
put_same parts i = ap (λ (of : List ℕ). record { count = parts.count; of = of }) (set-get_or parts.of i 0)
