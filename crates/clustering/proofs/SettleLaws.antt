-- Nodes that are put into partitions one after the other.
use Rattle.std.proofs.Common.{◌≡◌, ℕ, zero, suc, ◌+◌, ◌-◌, ◌*◌, ◌<◌, ◌≤◌, ◌⊎◌, inl, inr, eqb, List, [], ◌∷◌, ◌++◌, length, take, refl, sym, ◌∙◌, ap, subst, arith, get_or, set, replicate}
use Rattle.std.proofs.Math.Nat.{mul-suc, mul-le-mul_left}
use Rattle.std.specs.List.{sum, All}
use Rattle.std.specs.Int.{div_ceil}
use Rattle.std.proofs.lemmas.Bool.{cases_eq, cases_lt, eq-eqb, ne_eqb}
use Rattle.std.proofs.lemmas.List.{get_or-set_same, get_or-set_other, get_or_append_left, get_or_push, length-set, length_push, take-append-le, take_all}
use Rattle.std.proofs.lemmas.List.Elements.{All-push}
use Rattle.std.proofs.lemmas.List.Folds.{sum_by-replicate}
use Rattle.std.proofs.lemmas.List.Sums.{sum_by_push, sum_by-set, sum_by-cons}
use Rattle.std.proofs.lemmas.Grind.{div_ceil_times}
use Rattle.partitioner.specs.Below.{one_if}
use Rattle.tmr_base.specs.Parts.{PlainParts}
use Rattle.flat_net.specs.Net.{Net}
use Rattle.partitioner.specs.Sizes.{capacity, held, KeepsSize}
use Rattle.clustering.specs.Private.Settling.{AreSettled, IsPut, KeepsRoom, StandsBy}

-- where each partition is full, there are as many nodes as partitions times the room
pub full_sum : (room : ℕ) (holds : List ℕ) → ((p : ℕ) → p < length holds → room ≤ get_or holds p 0) → room * length holds ≤ sum holds
full_sum room [] full = omega arith
full_sum room (h ∷ holds) full =
    let here : room ≤ h = full 0 (omega arith) in
    let rest : room * length holds ≤ sum holds = full_sum room holds (λ p l. full (suc p) (omega (arith, l))) in
    let product : room * length (h ∷ holds) ≡ room * length holds + room = mul-suc room (length holds) in
    let together : sum (h ∷ holds) ≡ h + sum holds = sum_by-cons (λ x. x) h holds in
    omega (arith, here, rest, product, together)

unfoldable zeros : ℕ → List ℕ
zeros count = replicate count 0

zero_at : (count p : ℕ) → get_or (zeros count) p 0 ≡ 0
unfolding zeros
zero_at zero p = refl
zero_at (suc count) zero = refl
zero_at (suc count) (suc p) = zero_at count p

no_sum : (count : ℕ) → sum (zeros count) ≡ 0
unfolding zeros
no_sum count = omega (arith, sum_by-replicate (λ (h : ℕ). h) count 0)

-- no node has a partition yet
pub none_settled : (count : ℕ) → AreSettled [] (replicate count 0)
unfolding zeros
none_settled count = record {
  in_range = λ k d l. absurd (omega (arith, l));
  counted = λ p l. zero_at count p;
  total = no_sum count;
}

-- one more node stands in partition p
pub one_settled : (of holds : List ℕ) (p : ℕ) → AreSettled of holds → p < length holds → AreSettled (of ++ p ∷ []) (set holds p (get_or holds p 0 + 1))
one_settled of holds p settled l = record {
  in_range = λ k d m. subst (λ (n : ℕ). get_or (of ++ p ∷ []) k d < n) (sym long) (All-push (λ q. q < length holds) of p settled.in_range l k d m);
  counted = λ q m. at q (subst (λ (n : ℕ). q < n) long m) (cases_eq p q);
  total =
      let more : sum (set holds p (get_or holds p 0 + 1)) + get_or holds p 0 ≡ sum holds + (get_or holds p 0 + 1) = sum_by-set (λ h. h) holds p (get_or holds p 0 + 1) 0 l in
      omega (arith, more, settled.total, length_push of p);
}
  where
    long : length (set holds p (get_or holds p 0 + 1)) ≡ length holds
    long = length-set holds p (get_or holds p 0 + 1)

    more_held : (q : ℕ) → held (of ++ p ∷ []) q ≡ held of q + one_if (eqb p q)
    more_held q = sum_by_push (λ r. one_if (eqb r q)) of p

    at : (q : ℕ) → q < length holds → (p ≡ q) ⊎ (p ≡ q → ⊥) → get_or (set holds p (get_or holds p 0 + 1)) q 0 ≡ held (of ++ p ∷ []) q
    at q m (inl e) =
        let here : get_or (set holds p (get_or holds p 0 + 1)) q 0 ≡ get_or holds p 0 + 1 = subst (λ (r : ℕ). get_or (set holds p (get_or holds p 0 + 1)) r 0 ≡ get_or holds p 0 + 1) e (get_or-set_same holds p (get_or holds p 0 + 1) 0 l) in
        let was : get_or holds p 0 ≡ held of q = ap (λ (r : ℕ). get_or holds r 0) e ∙ settled.counted q m in
        let one : one_if (eqb p q) ≡ 1 = ap one_if (eq-eqb p q e) in
        omega (arith, here, was, one, more_held q)
    at q m (inr ne) =
        let here = get_or-set_other holds p q (get_or holds p 0 + 1) 0 (λ e. ne (sym e)) in
        let none : one_if (eqb p q) ≡ 0 = ap one_if (ne_eqb p q ne) in
        omega (arith, here, settled.counted q m, none, more_held q)

-- there is still room in each partition
pub one_kept : (room first p : ℕ) (holds : List ℕ) → KeepsRoom room first holds → p < length holds → get_or holds p 0 < room → KeepsRoom room first (set holds p (get_or holds p 0 + 1))
one_kept room first p holds keeps l free = record {
  most = λ q m. (at q (cases_eq p q)).1 (subst (λ (n : ℕ). q < n) (length-set holds p (get_or holds p 0 + 1)) m);
  full = λ q m. (at q (cases_eq p q)).0 m;
}
  where
    at : (q : ℕ) → (p ≡ q) ⊎ (p ≡ q → ⊥) → (q < first → room ≤ get_or (set holds p (get_or holds p 0 + 1)) q 0) × (q < length holds → get_or (set holds p (get_or holds p 0 + 1)) q 0 ≤ room)
    at q (inl e) =
        let here : get_or (set holds p (get_or holds p 0 + 1)) q 0 ≡ get_or holds p 0 + 1 = subst (λ (r : ℕ). get_or (set holds p (get_or holds p 0 + 1)) r 0 ≡ get_or holds p 0 + 1) e (get_or-set_same holds p (get_or holds p 0 + 1) 0 l) in
        let same : get_or holds p 0 ≡ get_or holds q 0 = ap (λ (r : ℕ). get_or holds r 0) e in
        ((λ m. let was : room ≤ get_or holds q 0 = keeps.full q m in omega (arith, here, same, was)), (λ m. omega (arith, here, free)))
    at q (inr ne) =
        let here = get_or-set_other holds p q (get_or holds p 0 + 1) 0 (λ e. ne (sym e)) in
        ((λ m. let was : room ≤ get_or holds q 0 = keeps.full q m in omega (arith, here, was)), (λ m. let was : get_or holds q 0 ≤ room = keeps.most q m in omega (arith, here, was)))

-- a node stands so where it is put: in the wanted partition if that has room, else in the free one, before which all are full
pub stands_by : (room wanted p free : ℕ) (of holds : List ℕ) → AreSettled of holds → KeepsRoom room free holds → free < length holds → get_or holds free 0 < room
    → (wanted < length holds → get_or holds wanted 0 < room → p ≡ wanted) → ((wanted < length holds → room ≤ get_or holds wanted 0) → p ≡ free) → StandsBy room (length holds) wanted of p
stands_by room wanted p free of holds settled keeps within has if_wanted if_full = record {
  here = λ h l. if_wanted h (omega (arith, settled.counted wanted h, l));
  free = λ full. subst (λ (k : ℕ). held of k < room) (sym (there full)) (omega (arith, settled.counted free within, has));
  first = λ full q l. let before : q < free = omega (arith, l, there full) in omega (arith, settled.counted q (omega (arith, before, within)), keeps.full q before);
}
  where
    there : (wanted < length holds → room ≤ held of wanted) → p ≡ free
    there full = if_full (λ h. omega (arith, settled.counted wanted h, full h))

-- one more node stands so
pub stands_more : (room parts w : ℕ) (wanted before after : List ℕ) → IsPut room parts w before after → w ≡ get_or wanted (length before) 0
    → ((j : ℕ) → j < length before → StandsBy room parts (get_or wanted j 0) (take j before) (get_or before j 0))
    → (j : ℕ) → j < length before + 1 → StandsBy room parts (get_or wanted j 0) (take j after) (get_or after j 0)
stands_more room parts w wanted before after put e all j l =
    subst (λ (xs : List ℕ). StandsBy room parts (get_or wanted j 0) (take j xs) (get_or xs j 0)) (sym put.is) (go (cases_lt j (length before)))
  where
    longer : List ℕ
    longer = before ++ put.place ∷ []

    go : (j < length before) ⊎ (length before ≤ j) → StandsBy room parts (get_or wanted j 0) (take j longer) (get_or longer j 0)
    go (inl m) =
        let same : take j longer ≡ take j before = take-append-le j before (put.place ∷ []) (omega (arith, m)) in
        let here : get_or longer j 0 ≡ get_or before j 0 = get_or_append_left before (put.place ∷ []) 0 j m in
        subst (λ (xs : List ℕ). StandsBy room parts (get_or wanted j 0) xs (get_or longer j 0)) (sym same) (subst (λ (k : ℕ). StandsBy room parts (get_or wanted j 0) (take j before) k) (sym here) (all j m))
    go (inr m) =
        let last : j ≡ length before = omega (arith, l, m) in
        let same : take j longer ≡ before = take-append-le j before (put.place ∷ []) (omega (arith, last)) ∙ take_all j before (omega (arith, last)) in
        let here : get_or longer j 0 ≡ put.place = get_or_push before put.place 0 j (sym last) in
        let asked : get_or wanted j 0 ≡ w = ap (λ (k : ℕ). get_or wanted k 0) last ∙ sym e in
        subst (λ (k : ℕ). StandsBy room parts k (take j longer) (get_or longer j 0)) (sym asked)
        (subst (λ (xs : List ℕ). StandsBy room parts w xs (get_or longer j 0)) (sym same) (subst (λ (k : ℕ). StandsBy room parts w before k) (sym here) put.stands))

-- no partition holds too many
pub held_few : (of holds : List ℕ) (room first p : ℕ) → AreSettled of holds → KeepsRoom room first holds → p < length holds → held of p ≤ room
held_few of holds room first p settled keeps l = omega (arith, settled.counted p l, keeps.most p l)

-- the size asks for enough partitions
pub enough_parts : (nodes size : ℕ) → 0 < size → nodes ≤ capacity size * div_ceil nodes size
enough_parts nodes size pos =
    let all : nodes ≤ div_ceil nodes size * size = (div_ceil_times nodes size pos).0 in
    let more : div_ceil nodes size * size ≤ div_ceil nodes size * capacity size = mul-le-mul_left (div_ceil nodes size) (omega arith) in
    omega (arith, all, more)

-- the rule of sizes, from what is known of the parts that partitions are made of
pub size_kept : (n : Net) (size nodes count : ℕ) (of : List ℕ) (parts : PlainParts) → parts ≡ record { count = count; of = of } → nodes ≡ length n.nodes → count ≤ div_ceil nodes size → length of ≡ nodes → All (λ p. p < count) of
    → ((p : ℕ) → p < count → held of p ≤ capacity size) → KeepsSize n size parts
size_kept n size nodes count of parts is all few each in_range room =
    subst (λ (made : PlainParts). KeepsSize n size made) (sym is) (record {
      count = subst (λ (m : ℕ). count ≤ div_ceil m size) all few;
      each = each ∙ all;
      in_range = in_range;
      held_few = room;
    })
