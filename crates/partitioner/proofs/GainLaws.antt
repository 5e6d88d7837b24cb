-- Counting what is near in each partition.
use Rattle.std.specs.Prelude.{max}
use Rattle.std.proofs.Common.{◌≡◌, ℕ, ◌+◌, ◌<◌, ◌≤◌, ◌⊎◌, inl, inr, Bool, true, false, cond, eqb, ltb, not, ◌&&◌, ◌||◌, List, [], ◌∷◌, length, refl, sym, ◌∙◌, ap, subst, set, arith, get_or, take}
use Rattle.std.specs.List.{count_by, list_any, range_with_len}
use Rattle.std.proofs.lemmas.Bool.Decides.{nat_tests}
use Rattle.std.proofs.Math.Nat.{max-le, le-max_left, le-max_right}
use Rattle.std.proofs.lemmas.Bool.{cases_Bool, cases_eq, eq-eqb, lt-ltb, ltb-true, ne_eqb, true≢false, false≢true}
use Rattle.std.proofs.lemmas.List.{length-take, take_all, get_or-set_same, get_or-set_other}
use Rattle.std.proofs.lemmas.List.Folds.{list_any_at, list_any_more}
use Rattle.std.proofs.lemmas.List.FromFn.{get_or-range_with_len, length-range_with_len}
use Rattle.std.proofs.lemmas.List.Sums.{sum_by-cons, sum_by_more, count_by-le-length, length-filter}
use Rattle.std.proofs.lemmas.List.Sorted.{length_permutation}
use Rattle.flat_net.specs.Net.{Net}
use Rattle.partitioner.specs.declared.counts.partitioning.Partitioning.{Partitioning}
use Rattle.partitioner.specs.declared.costs.gains.Gains.{Gains}
use Rattle.partitioner.specs.declared.costs.gains.Spot.{Spot}
use Rattle.partitioner.specs.Below.{one_if}
use Rattle.partitioner.specs.Private.Gaining.{AreBegun, AreGains, AreKept, IsCounted, IsMost, is_near, last_in, near_in, spot_at}
use Rattle.partitioner.specs.Private.Loss.{is_fresh, is_kept, is_wanted, loss}
use Rattle.node_reads.specs.Sources.{reads_other, other_readers, other_sources}
use Rattle.partitioner.specs.Private.Tracking.{Tracks}
use Rattle.node_reads.specs.Reading.{reads}
use Rattle.partitioner.proofs.BelowLaws.{one_if_le, one_of_two}
use Rattle.partitioner.proofs.CountLaws.{any_by_count}
use Rattle.partitioner.proofs.LossLaws.{loss_at_least}

-- those that pass and those that do not are all
pub count_both : (f : ℕ → Bool) (xs : List ℕ) → count_by (λ x. not (f x)) xs + count_by f xs ≡ length xs
count_both f [] = refl
count_both f (x ∷ xs) = go (f x) refl (count_both f xs)
  where
    go : (b : Bool) → f x ≡ b → count_by (λ y. not (f y)) xs + count_by f xs ≡ length xs → count_by (λ y. not (f y)) (x ∷ xs) + count_by f (x ∷ xs) ≡ length (x ∷ xs)
    go true e before =
        let fail : one_if (not (f x)) ≡ 0 = ap (λ (b : Bool). one_if (not b)) e in
        let pass : one_if (f x) ≡ 1 = ap one_if e in
        omega (arith, before, fail, pass, sum_by-cons (λ y. one_if (not (f y))) x xs, sum_by-cons (λ y. one_if (f y)) x xs)
    go false e before =
        let fail : one_if (not (f x)) ≡ 1 = ap (λ (b : Bool). one_if (not b)) e in
        let pass : one_if (f x) ≡ 0 = ap one_if e in
        omega (arith, before, fail, pass, sum_by-cons (λ y. one_if (not (f y))) x xs, sum_by-cons (λ y. one_if (f y)) x xs)

-- the highest count after one of them rose by one
pub most_goes_on : (counts after : ℕ → ℕ) (most q : ℕ) → IsMost counts most → ((r : ℕ) → after r ≡ counts r + one_if (eqb q r)) → IsMost after (max most (counts q + 1))
most_goes_on counts after most q is more = record { above = λ r. above_at r (cases_eq q r); least = λ bound h. max-le (is.least bound (λ r. omega (arith, more r, h r))) (here bound h) }
  where
    above_at : (r : ℕ) → (q ≡ r) ⊎ (q ≡ r → ⊥) → after r ≤ max most (counts q + 1)
    above_at r (inl e) =
        let one : one_if (eqb q r) ≡ 1 = ap one_if (eq-eqb q r e) in
        omega (arith, more r, one, ap counts e, le-max_right most (counts q + 1))
    above_at r (inr ne) =
        let none : one_if (eqb q r) ≡ 0 = ap one_if (ne_eqb q r ne) in
        omega (arith, more r, none, is.above r, le-max_left most (counts q + 1))

    here : (bound : ℕ) → ((r : ℕ) → after r ≤ bound) → counts q + 1 ≤ bound
    here bound h =
        let one : one_if (eqb q q) ≡ 1 = ap one_if (eq-eqb q q refl) in
        omega (arith, more q, one, h q)

-- how many are near in a partition, where what was counted up to turn `from` is forgotten
abbrev pub near_since : ℕ → Spot → ℕ
near_since from spot = cond (ltb from spot.last) spot.near 0

-- one more in partition q, in this turn
pub near_raised : (spots : List Spot) (from turn q r now : ℕ) → q < length spots → from < turn → now ≡ near_since from (spot_at spots q)
    → near_since from (spot_at (set spots q (record { near = now + 1; last = turn })) r) ≡ near_since from (spot_at spots r) + one_if (eqb q r)
near_raised spots from turn q r now l begun is = go (cases_eq q r)
  where
    raised : Spot
    raised = record { near = now + 1; last = turn }

    here : near_since from (spot_at (set spots q raised) q) ≡ now + 1
    here =
        ap (near_since from) (get_or-set_same spots q raised (record { near = 0; last = 0 }) l)
        ∙ ap (λ (b : Bool). cond b (now + 1) 0) (lt-ltb from turn begun)

    go : (q ≡ r) ⊎ (q ≡ r → ⊥) → near_since from (spot_at (set spots q raised) r) ≡ near_since from (spot_at spots r) + one_if (eqb q r)
    go (inl e) =
        let one : one_if (eqb q r) ≡ 1 = ap one_if (eq-eqb q r e) in
        let at : near_since from (spot_at (set spots q raised) r) ≡ now + 1 = subst (λ (k : ℕ). near_since from (spot_at (set spots q raised) k) ≡ now + 1) e here in
        let was : now ≡ near_since from (spot_at spots r) = subst (λ (k : ℕ). now ≡ near_since from (spot_at spots k)) e is in
        omega (arith, one, at, was)
    go (inr ne) =
        let none : one_if (eqb q r) ≡ 0 = ap one_if (ne_eqb q r ne) in
        let at : near_since from (spot_at (set spots q raised) r) ≡ near_since from (spot_at spots r) =
        ap (near_since from) (get_or-set_other spots q r raised (record { near = 0; last = 0 }) (λ e. ne (sym e))) in
        omega (arith, none, at)

plus_none : (a : ℕ) → a ≡ a + 0
plus_none a = omega arith

-- the counts within a turn, in which some partitions were met
pub record InTurn (before near last : ℕ → ℕ) (turn : ℕ) (met : ℕ → Bool) : Type 0 where
  pub near_is : (r : ℕ) → near r ≡ before r + one_if (met r)
  pub now : (r : ℕ) → met r ≡ true → last r ≡ turn
  pub past : (r : ℕ) → met r ≡ false → last r < turn

pub turn_begins : (near last : ℕ → ℕ) (turn : ℕ) → ((r : ℕ) → last r < turn) → InTurn near near last turn (λ r. false)
turn_begins near last turn low = record {
  near_is = λ r. plus_none (near r);
  now = λ r e. absurd (false≢true e);
  past = λ r e. low r;
}

pub turn_same : (before near last : ℕ → ℕ) (turn : ℕ) (met after : ℕ → Bool) → ((r : ℕ) → after r ≡ met r) → InTurn before near last turn met → InTurn before near last turn after
turn_same before near last turn met after same is = record {
  near_is = λ r. is.near_is r ∙ ap (λ (b : Bool). before r + one_if b) (sym (same r));
  now = λ r e. is.now r (sym (same r) ∙ e);
  past = λ r e. is.past r (sym (same r) ∙ e);
}

pub turn_goes_on : (before near last near' last' : ℕ → ℕ) (turn q : ℕ) (met after : ℕ → Bool) → InTurn before near last turn met → ((r : ℕ) → near' r ≡ near r + one_if (eqb q r && not (eqb (last r) turn))) → ((r : ℕ) → last' r ≡ cond (eqb q r) turn (last r)) → ((r : ℕ) → after r ≡ (met r || eqb q r)) → InTurn before near' last' turn after
turn_goes_on before near last near' last' turn q met after is more latest same = record {
  near_is = λ r. near_at r (cases_Bool (met r));
  now = λ r e. now_at r (cases_Bool (met r)) (sym (same r) ∙ e);
  past = λ r e. past_at r (cases_Bool (met r)) (sym (same r) ∙ e);
}
  where
    none : (b : Bool) → (b && false) ≡ false
    none true = refl
    none false = refl

    whole : (b : Bool) → (b && true) ≡ b
    whole true = refl
    whole false = refl

    near_at : (r : ℕ) → (met r ≡ true) ⊎ (met r ≡ false) → near' r ≡ before r + one_if (after r)
    near_at r (inl e) =
        let so : one_if (met r) ≡ 1 = ap one_if e in
        let still : one_if (after r) ≡ 1 = ap one_if (same r ∙ ap (λ (b : Bool). b || eqb q r) e) in
        let added : one_if (eqb q r && not (eqb (last r) turn)) ≡ 0 = ap (λ (b : Bool). one_if (eqb q r && not b)) (eq-eqb (last r) turn (is.now r e)) ∙ ap one_if (none (eqb q r)) in
        omega (arith, so, still, added, more r, is.near_is r)
    near_at r (inr e) =
        let so : one_if (met r) ≡ 0 = ap one_if e in
        let still : one_if (after r) ≡ one_if (eqb q r) = ap one_if (same r ∙ ap (λ (b : Bool). b || eqb q r) e) in
        let added : one_if (eqb q r && not (eqb (last r) turn)) ≡ one_if (eqb q r) =
        ap (λ (b : Bool). one_if (eqb q r && not b)) (ne_eqb (last r) turn (λ f. omega (arith, f, is.past r e))) ∙ ap one_if (whole (eqb q r)) in
        omega (arith, so, still, added, more r, is.near_is r)

    now_at : (r : ℕ) → (met r ≡ true) ⊎ (met r ≡ false) → (met r || eqb q r) ≡ true → last' r ≡ turn
    now_at r (inl e) any = latest r ∙ at (eqb q r)
      where
        at : (b : Bool) → cond b turn (last r) ≡ turn
        at true = refl
        at false = is.now r e
    now_at r (inr e) any = latest r ∙ ap (λ (b : Bool). cond b turn (last r)) (sym (ap (λ (b : Bool). b || eqb q r) e) ∙ any)

    past_at : (r : ℕ) → (met r ≡ true) ⊎ (met r ≡ false) → (met r || eqb q r) ≡ false → last' r < turn
    past_at r (inl e) none = absurd (true≢false (sym (ap (λ (b : Bool). b || eqb q r) e) ∙ none))
    past_at r (inr e) none =
        let stays : last' r ≡ last r = latest r ∙ ap (λ (b : Bool). cond b turn (last r)) (sym (ap (λ (b : Bool). b || eqb q r) e) ∙ none) in
        omega (arith, stays, is.past r e)

-- the partitions of node x and, beside i, of its first m readers
abbrev pub met_of : List ℕ → ℕ → ℕ → List ℕ → ℕ → ℕ → Bool
met_of of i x row m r = eqb (get_or of x 0) r || list_any (λ y. not (eqb i y) && eqb (get_or of y 0) r) (take m row)

pub met_first : (of : List ℕ) (i x : ℕ) (row : List ℕ) (q r : ℕ) → q ≡ get_or of x 0 → met_of of i x row 0 r ≡ (false || eqb q r)
met_first of i x row q r e = or_none (eqb (get_or of x 0) r) ∙ ap (λ (k : ℕ). eqb k r) (sym e)
  where
    or_none : (b : Bool) → (b || false) ≡ b
    or_none true = refl
    or_none false = refl

or_or : (a b c : Bool) → (a || (b || c)) ≡ ((a || b) || c)
or_or true b c = refl
or_or false b c = refl

pub met_more : (of : List ℕ) (i x : ℕ) (row : List ℕ) (m q r : ℕ) → m < length row → (get_or row m 0 ≡ i → ⊥) → q ≡ get_or of (get_or row m 0) 0 → met_of of i x row (m + 1) r ≡ (met_of of i x row m r || eqb q r)
met_more of i x row m q r l ne e =
    ap (λ (b : Bool). eqb (get_or of x 0) r || b) (list_any_more (λ y. not (eqb i y) && eqb (get_or of y 0) r) row m 0 l
    ∙ ap (λ (b : Bool). list_any (λ y. not (eqb i y) && eqb (get_or of y 0) r) (take m row) || b) (ap (λ (b : Bool). not b && eqb (get_or of (get_or row m 0) 0) r) (ne_eqb i (get_or row m 0) (λ f. ne (sym f))) ∙ ap (λ (k : ℕ). eqb k r) (sym e)))
    ∙ or_or (eqb (get_or of x 0) r) (list_any (λ y. not (eqb i y) && eqb (get_or of y 0) r) (take m row)) (eqb q r)

pub met_skipped : (of : List ℕ) (i x : ℕ) (row : List ℕ) (m r : ℕ) → m < length row → get_or row m 0 ≡ i → met_of of i x row (m + 1) r ≡ met_of of i x row m r
met_skipped of i x row m r l e =
    ap (λ (b : Bool). eqb (get_or of x 0) r || b) (list_any_more (λ y. not (eqb i y) && eqb (get_or of y 0) r) row m 0 l
    ∙ (ap (λ (b : Bool). list_any (λ y. not (eqb i y) && eqb (get_or of y 0) r) (take m row) || (not b && eqb (get_or of (get_or row m 0) 0) r)) (eq-eqb i (get_or row m 0) (sym e))
    ∙ or_none (list_any (λ y. not (eqb i y) && eqb (get_or of y 0) r) (take m row))))
  where
    or_none : (b : Bool) → (b || false) ≡ b
    or_none true = refl
    or_none false = refl

pub met_all : (n : Net) (of : List ℕ) (i x : ℕ) (row : List ℕ) (m r : ℕ) → length row ≤ m → row ≡ other_readers n x → is_near n of i r x ≡ met_of of i x row m r
met_all n of i x row m r past is =
    either (eqb (get_or of x 0) r) (is_kept n of i x r)
    ∙ ap (λ (xs : List ℕ). eqb (get_or of x 0) r || list_any (λ y. not (eqb i y) && eqb (get_or of y 0) r) xs) (sym (take_all m row past ∙ is))
  where
    either : (a b : Bool) → not (not a && not b) ≡ (a || b)
    either true b = refl
    either false true = refl
    either false false = refl

-- the partitions of the first m nodes of a row
abbrev pub held_by : List ℕ → List ℕ → ℕ → ℕ → Bool
held_by of row m r = list_any (λ y. eqb (get_or of y 0) r) (take m row)

pub held_more : (of row : List ℕ) (m q r : ℕ) → m < length row → q ≡ get_or of (get_or row m 0) 0 → held_by of row (m + 1) r ≡ (held_by of row m r || eqb q r)
held_more of row m q r l e = list_any_more (λ y. eqb (get_or of y 0) r) row m 0 l ∙ ap (λ (k : ℕ). list_any (λ y. eqb (get_or of y 0) r) (take m row) || eqb k r) (sym e)

pub held_all : (n : Net) (of : List ℕ) (i : ℕ) (row : List ℕ) (m r : ℕ) → length row ≤ m → row ≡ other_readers n i → is_wanted n of i r ≡ held_by of row m r
held_all n of i row m r past is = ap (λ (xs : List ℕ). list_any (λ y. eqb (get_or of y 0) r) xs) (sym (take_all m row past ∙ is))

-- a turn in which some partitions were met
pub record IsTurned (old new : Gains) (count : ℕ) (met : ℕ → Bool) : Type 0 where
  pub turned : InTurn (near_in old) (near_in new) (last_in new) old.turn met
  pub counted : new.counted ≡ old.counted
  pub from : new.from ≡ old.from
  pub turn : new.turn ≡ old.turn
  pub long : length new.spots.items ≡ count
  pub most : IsMost (near_in new) new.most

-- a turn at its end
pub turn_near : (n : Net) (of : List ℕ) (i x : ℕ) (row : List ℕ) (m turn : ℕ) (before near last : ℕ → ℕ) → length row ≤ m → row ≡ other_readers n x → InTurn before near last turn (met_of of i x row m) → (q : ℕ) → near q ≡ before q + one_if (is_near n of i q x)
turn_near n of i x row m turn before near last past is turned q = turned.near_is q ∙ ap (λ (b : Bool). before q + one_if b) (sym (met_all n of i x row m q past is))

-- the readers' turn at its end
pub readers_near : (n : Net) (of : List ℕ) (i : ℕ) (row : List ℕ) (m turn : ℕ) (before near last : ℕ → ℕ) → length row ≤ m → row ≡ other_readers n i → ((q : ℕ) → before q ≡ 0) → InTurn before near last turn (held_by of row m) → (q : ℕ) → near q ≡ one_if (is_wanted n of i q)
readers_near n of i row m turn before near last past is none turned q =
    let same : one_if (is_wanted n of i q) ≡ one_if (held_by of row m q) = ap one_if (held_all n of i row m q past is) in
    omega (arith, turned.near_is q, none q, same)

pub turn_last : (before near last : ℕ → ℕ) (turn : ℕ) (met : ℕ → Bool) → InTurn before near last turn met → (q : ℕ) → last q ≤ turn
turn_last before near last turn met turned q = at (cases_Bool (met q))
  where
    at : (met q ≡ true) ⊎ (met q ≡ false) → last q ≤ turn
    at (inl e) = omega (arith, turned.now q e)
    at (inr e) = omega (arith, turned.past q e)

-- a turn has few
pub turn_few : (before near last : ℕ → ℕ) (turn : ℕ) (met : ℕ → Bool) (q : ℕ) → InTurn before near last turn met → before q < 4294967294 → near q < 4294967295
turn_few before near last turn met q turned few = omega (arith, turned.near_is q, one_if_few (met q), few)
  where
    one_if_few : (b : Bool) → one_if b ≤ 1
    one_if_few true = omega arith
    one_if_few false = omega arith

-- the counts after the readers' turn and j turns more
pub record Gained (n : Net) (p : Partitioning) (i : ℕ) (row : List ℕ) (gains : Gains) (j : ℕ) : Type 0 where
  pub kept : AreKept p.count gains
  pub counted : gains.counted ≡ j
  pub turn : gains.turn ≡ gains.from + 1 + j
  pub near : (q : ℕ) → near_in gains q ≡ one_if (is_wanted n p.of.items i q) + count_by (is_near n p.of.items i q) (take j row)
  pub most : IsMost (near_in gains) gains.most

pub none_near : (from last near : ℕ) → last ≤ from → cond (ltb from last) near 0 ≡ 0
none_near from last near l = ap (λ (b : Bool). cond b near 0) (ltb_past from last l)
  where
    ltb_past : (from last : ℕ) → last ≤ from → ltb from last ≡ false
    ltb_past from last l = grind (arith, nat_tests)

-- nothing is near at first
pub begun_none : (count : ℕ) (gains : Gains) → AreBegun count gains → (q : ℕ) → near_in gains q ≡ 0
begun_none count gains is q = none_near gains.from (last_in gains q) (spot_at gains.spots.items q).near (omega (arith, is.kept.past q, is.now))

-- what is near in a partition and what is missed there are all nodes that are counted, and one
pub missed_in_all : (n : Net) (p : Partitioning) (i q : ℕ) (gains : Gains) → AreGains n p i gains
    → near_in gains q + (one_if (not (is_wanted n p.of.items i q)) + count_by (λ x. is_fresh n p.of.items i x q) (take gains.counted (get_or p.sources i []))) ≡ gains.counted + 1
missed_in_all n p i q gains is =
    let row : List ℕ = get_or p.sources i [] in
    let both = count_both (λ x. is_fresh n p.of.items i x q) (take gains.counted row) in
    let long = length-take gains.counted row in
    omega (arith, is.near q, is.within, both, long, one_of_two (is_wanted n p.of.items i q))

pub gained_first : (n : Net) (p : Partitioning) (i : ℕ) (row : List ℕ) (old new : Gains) → AreBegun p.count old → AreKept p.count new → new.counted ≡ old.counted → new.from ≡ old.from → new.turn ≡ old.turn + 1
    → ((q : ℕ) → near_in new q ≡ one_if (is_wanted n p.of.items i q)) → IsMost (near_in new) new.most → Gained n p i row new 0
gained_first n p i row old new is kept counted from turn near most = record {
  kept = kept;
  counted = omega (arith, counted, is.none);
  turn = omega (arith, turn, from, is.now);
  near = λ q. near q ∙ plus_none (one_if (is_wanted n p.of.items i q));
  most = most;
}

pub gained_few : (n : Net) (p : Partitioning) (i : ℕ) (row : List ℕ) (gains : Gains) (j q : ℕ) → Gained n p i row gains j → near_in gains q ≤ j + 1
gained_few n p i row gains j q is = omega (arith, is.near q, one_if_le (is_wanted n p.of.items i q), count_by-le-length (is_near n p.of.items i q) (take j row), length-take j row)

pub gained_more : (n : Net) (p : Partitioning) (i : ℕ) (row : List ℕ) (old new : Gains) (j : ℕ) → Gained n p i row old j → j < length row → AreKept p.count new → new.counted ≡ old.counted + 1 → new.from ≡ old.from → new.turn ≡ old.turn + 1
    → ((q : ℕ) → near_in new q ≡ near_in old q + one_if (is_near n p.of.items i q (get_or row j 0))) → IsMost (near_in new) new.most → Gained n p i row new (j + 1)
gained_more n p i row old new j is l kept counted from turn near most = record {
  kept = kept;
  counted = omega (arith, counted, is.counted);
  turn = omega (arith, turn, from, is.turn);
  near = λ q. omega (arith, near q, is.near q, sum_by_more (λ x. one_if (is_near n p.of.items i q x)) row j 0 l);
  most = most;
}

pub gained_gains : (n : Net) (p : Partitioning) (i : ℕ) (row : List ℕ) (gains : Gains) (j : ℕ) → row ≡ get_or p.sources i [] → j ≤ length row → Gained n p i row gains j → AreGains n p i gains
gained_gains n p i row gains j at l is = record {
  within = omega (arith, is.counted, l, ap length at);
  near = λ q. is.near q ∙ ap (λ (k : ℕ). one_if (is_wanted n p.of.items i q) + k) (ap (λ (k : ℕ). count_by (is_near n p.of.items i q) (take k row)) (sym is.counted) ∙ ap (λ (xs : List ℕ). count_by (is_near n p.of.items i q) (take gains.counted xs)) at);
  most = is.most;
}

-- a node reads fewer others than there are nodes
others_fewer : (n : Net) (i : ℕ) → i < length n.nodes → length (other_sources n i) < length n.nodes
others_fewer n i l =
    let nodes = range_with_len 0 (length n.nodes) in
    let long = length-range_with_len 0 (length n.nodes) in
    let both = count_both (λ x. reads_other n i x) nodes in
    let itself : not (reads_other n i i) ≡ true = ap (λ (b : Bool). not (not b && reads n i i)) (eq-eqb i i refl) in
    let here : get_or nodes i 0 ≡ i = get_or-range_with_len 0 (length n.nodes) i 0 l ∙ none_plus i in
    let any : list_any (λ x. not (reads_other n i x)) nodes ≡ true = list_any_at (λ x. not (reads_other n i x)) nodes i 0 (omega (arith, l, long)) (ap (λ (x : ℕ). not (reads_other n i x)) here ∙ itself) in
    let some = ltb-true 0 (count_by (λ x. not (reads_other n i x)) nodes) (sym (any_by_count (λ x. not (reads_other n i x)) nodes) ∙ any) in
    omega (arith, length-filter (λ x. reads_other n i x) nodes, both, long, some)
  where
    none_plus : (a : ℕ) → 0 + a ≡ a
    none_plus a = omega arith

pub sources_few : (n : Net) (p : Partitioning) (i : ℕ) → Tracks n p → i < length n.nodes → length (get_or p.sources i []) < length n.nodes
sources_few n p i tracks l = omega (arith, length_permutation (other_sources n i) (get_or p.sources i []) (tracks.sources i l), others_fewer n i l)

-- no partition is nearer than all that is counted
pub most_few : (n : Net) (p : Partitioning) (i : ℕ) (gains : Gains) → AreGains n p i gains → gains.most ≤ gains.counted + 1
most_few n p i gains is = is.most.least (gains.counted + 1) (λ q. omega (arith, missed_in_all n p i q gains is))

-- a node loses no less in a partition than where most is near
pub least_lost : (n : Net) (p : Partitioning) (i q : ℕ) (gains : Gains) → IsCounted n p i gains → gains.counted + 1 ≤ gains.most + loss n p.of.items i q
least_lost n p i q gains is =
    omega (arith, missed_in_all n p i q gains is.gained, is.gained.most.above q, loss_at_least n p.of.items i q (get_or p.sources i []) gains.counted (is.tracks.sources i is.node))
