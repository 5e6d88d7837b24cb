-- What a node loses where another node moves, and which nodes still rest.
use Rattle.std.proofs.Common.{◌≡◌, ℕ, ◌+◌, ◌<◌, ◌≤◌, ◌⊎◌, inl, inr, Bool, true, false, eqb, not, ◌&&◌, ◌||◌, List, [], ◌∷◌, length, refl, sym, ◌∙◌, ap, subst, arith, get_or, set, IsPermutation}
use Rattle.std.specs.List.{list_any, count_by, All}
use Rattle.std.proofs.lemmas.Bool.{cases_Bool, cases_eq, eqb-true, true≢false}
use Rattle.std.proofs.lemmas.List.{get_or-set_other, get_or-set_same, get_or_default, length-set}
use Rattle.std.proofs.lemmas.List.Elements.{All-head, All-tail, filter_passes, All-filter}
use Rattle.std.proofs.lemmas.List.Sorted.{All-permutation, IsPermutation-sym, list_any-IsPermutation}
use Rattle.std.proofs.lemmas.List.Sums.{sum_by-cons}
use Rattle.std.specs.List.{range_with_len}
use Rattle.flat_net.specs.Net.{Net}
use Rattle.partitioner.specs.Below.{one_if}
use Rattle.partitioner.specs.declared.counts.partitioning.Partitioning.{Partitioning}
use Rattle.partitioner.specs.declared.refinement.resting.Rest.{Rest}
use Rattle.node_reads.specs.Sources.{reads_other, other_readers, other_sources}
use Rattle.node_reads.proofs.Numbers.{any_passing, numbers_below}
use Rattle.partitioner.specs.Private.Loss.{is_fresh, is_kept, is_wanted, loss, IsContent}
use Rattle.partitioner.specs.Private.Tracking.{Tracks}
use Rattle.partitioner.specs.Private.Resting.{AreDated, IsApart, IsResting, Rests, changed_at, rested_at}

-- two tests that agree on a row
any_alike : (f g : ℕ → Bool) (xs : List ℕ) → All (λ x. f x ≡ g x) xs → list_any f xs ≡ list_any g xs
any_alike f g [] all = refl
any_alike f g (x ∷ xs) all = ap (λ (b : Bool). b || list_any f xs) (All-head (λ y. f y ≡ g y) x xs all) ∙ ap (λ (b : Bool). g x || b) (any_alike f g xs (All-tail (λ y. f y ≡ g y) x xs all))

count_alike : (f g : ℕ → Bool) (xs : List ℕ) → All (λ x. f x ≡ g x) xs → count_by f xs ≡ count_by g xs
count_alike f g [] all = refl
count_alike f g (x ∷ xs) all =
    let here : one_if (f x) ≡ one_if (g x) = ap one_if (All-head (λ y. f y ≡ g y) x xs all) in
    omega (arith, here, count_alike f g xs (All-tail (λ y. f y ≡ g y) x xs all), sum_by-cons (λ y. one_if (f y)) x xs, sum_by-cons (λ y. one_if (g y)) x xs)

-- the other readers of a node that i does not read are not i
not_among : (n : Net) (i x : ℕ) → reads_other n i x ≡ false → All (λ y. y ≡ i → ⊥) (other_readers n x)
not_among n i x unread = λ k d l e.
    true≢false (sym (filter_passes (λ y. reads_other n y x) (range_with_len 0 (length n.nodes)) k d l) ∙ (ap (λ (y : ℕ). reads_other n y x) e ∙ unread))

wanted_apart : (n : Net) (of : List ℕ) (i b j q : ℕ) → reads_other n i j ≡ false → is_wanted n (set of i b) j q ≡ is_wanted n of j q
wanted_apart n of i b j q unread =
    any_alike (λ y. eqb (get_or (set of i b) y 0) q) (λ y. eqb (get_or of y 0) q) (other_readers n j)
    (λ k d l. ap (λ (p : ℕ). eqb p q) (get_or-set_other of i (get_or (other_readers n j) k d) b 0 (not_among n i j unread k d l)))

fresh_apart : (n : Net) (of : List ℕ) (i b j x q : ℕ) → (i ≡ x → ⊥) → reads_other n i x ≡ false → is_fresh n (set of i b) j x q ≡ is_fresh n of j x q
fresh_apart n of i b j x q other unread =
    ap (λ (p : ℕ). not (eqb p q) && not (is_kept n (set of i b) j x q)) (get_or-set_other of i x b 0 (λ e. other (sym e)))
    ∙ ap (λ (c : Bool). not (eqb (get_or of x 0) q) && not c)
    (any_alike (λ y. not (eqb j y) && eqb (get_or (set of i b) y 0) q) (λ y. not (eqb j y) && eqb (get_or of y 0) q) (other_readers n x)
    (λ k d l. ap (λ (p : ℕ). not (eqb j (get_or (other_readers n x) k d)) && eqb p q) (get_or-set_other of i (get_or (other_readers n x) k d) b 0 (not_among n i x unread k d l))))

-- what a node loses does not depend on where a node stands that is apart from it
pub loss_apart : (n : Net) (of : List ℕ) (i b j q : ℕ) → IsApart n i j → loss n (set of i b) j q ≡ loss n of j q
unfolding loss
loss_apart n of i b j q apart =
    ap (λ (c : Bool). one_if (not c) + count_by (λ x. is_fresh n (set of i b) j x q) (other_sources n j)) (wanted_apart n of i b j q apart.unread)
    ∙ ap (λ (k : ℕ). one_if (not (is_wanted n of j q)) + k)
    (count_alike (λ x. is_fresh n (set of i b) j x q) (λ x. is_fresh n of j x q) (other_sources n j)
    (λ k d l. fresh_apart n of i b j (get_or (other_sources n j) k d) q (apart.no_source k d l) (apart.no_reader k d l)))

pub content_apart : (n : Net) (of : List ℕ) (i b j : ℕ) → IsApart n i j → IsContent n of j → IsContent n (set of i b) j
content_apart n of i b j apart content = λ q.
    let here : loss n (set of i b) j (get_or (set of i b) j 0) ≡ loss n of j (get_or of j 0) =
    ap (loss n (set of i b) j) (get_or-set_other of i j b 0 (λ e. apart.other (sym e))) ∙ loss_apart n of i b j (get_or of j 0) apart in
    omega (arith, here, loss_apart n of i b j q apart, content q)

-- node i moved: what still rests is apart from it
pub rests_moved : (n : Net) (of : List ℕ) (i b : ℕ) (before after : Rest) → AreDated (length n.nodes) after → ((j : ℕ) → IsResting n after j → IsResting n before j) → ((j : ℕ) → j < length n.nodes → IsResting n after j → IsApart n i j) → Rests n of before → Rests n (set of i b) after
rests_moved n of i b before after dated kept apart rests = record {
  dated = dated;
  content = λ j l is. content_apart n of i b j (apart j l is) (rests.content j l (kept j is));
}

-- node i was found content
pub rests_noted : (n : Net) (of : List ℕ) (i : ℕ) (before after : Rest) → i < length n.nodes → IsContent n of i → Rests n of before → after.clock ≡ before.clock → after.changed.items ≡ before.changed.items → after.rested.items ≡ set before.rested.items i before.clock → Rests n of after
rests_noted n of i before after within content rests clock changed rested = record {
  dated = record {
    changed_long = ap length changed ∙ rests.dated.changed_long;
    rested_long = ap length rested ∙ (length-set before.rested.items i before.clock ∙ rests.dated.rested_long);
    past = λ j. past j (cases_eq j i);
  };
  content = λ j l is. at j l is (cases_eq j i);
}
  where
    here : rested_at after i ≡ before.clock
    here = ap (λ (xs : List ℕ). get_or xs i 0) rested ∙ get_or-set_same before.rested.items i before.clock 0 (omega (arith, within, rests.dated.rested_long))

    there : (j : ℕ) → (j ≡ i → ⊥) → rested_at after j ≡ rested_at before j
    there j ne = ap (λ (xs : List ℕ). get_or xs j 0) rested ∙ get_or-set_other before.rested.items i j before.clock 0 ne

    same : (x : ℕ) → changed_at after x ≡ changed_at before x
    same x = ap (λ (xs : List ℕ). get_or xs x 0) changed

    past : (j : ℕ) → (j ≡ i) ⊎ (j ≡ i → ⊥) → rested_at after j ≤ after.clock
    past j (inl e) = omega (arith, ap (rested_at after) e, here, clock)
    past j (inr ne) = omega (arith, there j ne, rests.dated.past j, clock)

    at : (j : ℕ) → j < length n.nodes → IsResting n after j → (j ≡ i) ⊎ (j ≡ i → ⊥) → IsContent n of j
    at j l is (inl e) = subst (λ (k : ℕ). IsContent n of k) (sym e) content
    at j l is (inr ne) = rests.content j l (record {
      some = omega (arith, is.some, there j ne);
      own = omega (arith, is.own, there j ne, same j);
      sources = λ k d h. omega (arith, is.sources k d h, there j ne, same (get_or (other_sources n j) k d));
    })

any_holds : (P : ℕ → Type 0) (x : ℕ) (ys : List ℕ) → list_any (λ y. eqb y x) ys ≡ true → All P ys → P x
any_holds P x [] e all = absurd (true≢false (sym e))
any_holds P x (y ∷ ys) e all = go (cases_Bool (eqb y x)) (λ h. any_holds P x ys h (All-tail P y ys all))
  where
    go : (eqb y x ≡ true) ⊎ (eqb y x ≡ false) → (list_any (λ z. eqb z x) ys ≡ true → P x) → P x
    go (inl h) later = subst P (eqb-true y x h) (All-head P y ys all)
    go (inr h) later = later (sym (ap (λ (b : Bool). b || list_any (λ z. eqb z x) ys) h) ∙ e)

-- the times before and after a move of node i were noted
pub record IsNoted (n : Net) (before after : Rest) (i now : ℕ) (row : List ℕ) : Type 0 where
  pub rested : (j : ℕ) → rested_at after j ≡ rested_at before j
  pub later : (j : ℕ) → rested_at before j < now
  pub own : changed_at after i ≡ now
  pub row_now : All (λ x. changed_at after x ≡ now) row
  pub others : (x : ℕ) → (changed_at after x ≡ now) ⊎ (changed_at after x ≡ changed_at before x)

unchanged : (n : Net) (before after : Rest) (i now j x : ℕ) (row : List ℕ) → IsNoted n before after i now row → changed_at after x ≤ rested_at after j → changed_at before x ≤ rested_at before j
unchanged n before after i now j x row is l = go (is.others x)
  where
    go : (changed_at after x ≡ now) ⊎ (changed_at after x ≡ changed_at before x) → changed_at before x ≤ rested_at before j
    go (inl e) = omega (arith, e, l, is.rested j, is.later j)
    go (inr e) = omega (arith, e, l, is.rested j)

pub noted_kept : (n : Net) (before after : Rest) (i now j : ℕ) (row : List ℕ) → IsNoted n before after i now row → IsResting n after j → IsResting n before j
noted_kept n before after i now j row is resting = record {
  some = omega (arith, resting.some, is.rested j);
  own = unchanged n before after i now j j row is resting.own;
  sources = λ k d h. unchanged n before after i now j (get_or (other_sources n j) k d) row is (resting.sources k d h);
}

pub noted_apart : (n : Net) (before after : Rest) (i now j : ℕ) (row : List ℕ) → IsPermutation (other_sources n i) row → IsNoted n before after i now row → j < length n.nodes → IsResting n after j → IsApart n i j
noted_apart n before after i now j row perm is within resting = record {
  other = unmoved j resting.own;
  unread = unread j within resting.own;
  no_source = λ k d h. unmoved (get_or (other_sources n j) k d) (resting.sources k d h);
  no_reader = λ k d h. unread (get_or (other_sources n j) k d) (below k d h) (resting.sources k d h);
}
  where
    below : All (λ x. x < length n.nodes) (other_sources n j)
    below = All-filter (λ x. reads_other n j x) (λ x. x < length n.nodes) (range_with_len 0 (length n.nodes)) (numbers_below (length n.nodes))

    unmoved : (x : ℕ) → changed_at after x ≤ rested_at after j → i ≡ x → ⊥
    unmoved x l e = omega (arith, l, ap (changed_at after) e, is.own, is.rested j, is.later j)

    unread : (x : ℕ) → x < length n.nodes → changed_at after x ≤ rested_at after j → reads_other n i x ≡ false
    unread x h l = go (cases_Bool (reads_other n i x))
      where
        go : (reads_other n i x ≡ true) ⊎ (reads_other n i x ≡ false) → reads_other n i x ≡ false
        go (inl e) =
            let named : list_any (λ y. eqb y x) row ≡ true = sym (list_any-IsPermutation (λ y. eqb y x) (other_sources n i) row perm) ∙ (any_passing (λ y. reads_other n i y) (length n.nodes) x h ∙ e) in
            let here : changed_at after x ≡ now = any_holds (λ y. changed_at after y ≡ now) x row named is.row_now in
            absurd (omega (arith, here, l, is.rested j, is.later j))
        go (inr e) = e

-- the times are noted once node i's is set, and then those of the row
pub times_noted : (n : Net) (before after : Rest) (i : ℕ) (row : List ℕ) → i < length before.changed.items → ((j : ℕ) → rested_at after j ≡ rested_at before j) → ((j : ℕ) → rested_at before j < before.clock) → All (λ x. changed_at after x ≡ before.clock) row → ((x : ℕ) → (changed_at after x ≡ before.clock) ⊎ (changed_at after x ≡ get_or (set before.changed.items i before.clock) x 0)) → IsNoted n before after i before.clock row
times_noted n before after i row l rested later all others = record {
  rested = rested;
  later = later;
  own = own (others i);
  row_now = all;
  others = λ x. other x (others x) (cases_eq x i);
}
  where
    here : get_or (set before.changed.items i before.clock) i 0 ≡ before.clock
    here = get_or-set_same before.changed.items i before.clock 0 l

    own : (changed_at after i ≡ before.clock) ⊎ (changed_at after i ≡ get_or (set before.changed.items i before.clock) i 0) → changed_at after i ≡ before.clock
    own (inl e) = e
    own (inr e) = e ∙ here

    other : (x : ℕ) → (changed_at after x ≡ before.clock) ⊎ (changed_at after x ≡ get_or (set before.changed.items i before.clock) x 0) → (x ≡ i) ⊎ (x ≡ i → ⊥) → (changed_at after x ≡ before.clock) ⊎ (changed_at after x ≡ changed_at before x)
    other x (inl e) same = inl e
    other x (inr e) (inl same) = inl (e ∙ (ap (λ (k : ℕ). get_or (set before.changed.items i before.clock) k 0) same ∙ here))
    other x (inr e) (inr ne) = inr (e ∙ get_or-set_other before.changed.items i x before.clock 0 ne)

-- what holds of each node of a row holds of each that node i reads
pub sources_all : (P : ℕ → Type 0) (n : Net) (i : ℕ) (row : List ℕ) → IsPermutation (other_sources n i) row → ((k : ℕ) → k < length row → P (get_or row k 0)) → All P (other_sources n i)
sources_all P n i row perm holds = All-permutation P row (other_sources n i) (IsPermutation-sym (other_sources n i) row perm) (λ k d l. subst P (get_or_default row k 0 d l) (holds k l))

-- the row of the nodes that node i reads
pub row_permutes : (n : Net) (p : Partitioning) (i : ℕ) (row : List ℕ) → Tracks n p → i < length n.nodes → row ≡ get_or p.sources i [] → IsPermutation (other_sources n i) row
row_permutes n p i row tracks l same = subst (λ (xs : List ℕ). IsPermutation (other_sources n i) xs) (sym same) (tracks.sources i l)
