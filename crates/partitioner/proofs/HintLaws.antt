-- Counting where wide nodes are read in partitions with room.
use Rattle.std.proofs.Common.{◌≡◌, ℕ, ◌+◌, ◌-◌, ◌<◌, ◌≤◌, ◌⊎◌, inl, inr, Bool, true, false, cond, eqb, not, ◌&&◌, ◌||◌, List, [], ◌∷◌, length, refl, sym, ◌∙◌, ap, subst, arith, get_or, take}
use Rattle.std.specs.List.{count_by, list_any}
use Rattle.std.specs.Ordering.{is_eq, nat_cmp}
use Rattle.std.proofs.lemmas.Bool.{cases_Bool, cases_eq, eq-eqb, eqb-true, ltb-true, ne_eqb, and_parts}
use Rattle.std.proofs.lemmas.List.{length-take}
use Rattle.std.proofs.lemmas.List.Sums.{sum_by_more}
use Rattle.flat_net.specs.Net.{Net}
use Rattle.partitioner.specs.declared.counts.partitioning.Partitioning.{Partitioning}
use Rattle.partitioner.specs.declared.counts.spots.Spots.{Spots}
use Rattle.partitioner.specs.declared.costs.gains.Gains.{Gains}
use Rattle.partitioner.specs.Below.{one_if}
use Rattle.partitioner.specs.Refining.{has_room}
use Rattle.partitioner.specs.Private.Gaining.{AreBegun, AreKept, IsCounted, IsMost, is_near, last_in, near_in}
use Rattle.partitioner.specs.Private.Hinting.{AreHints}
use Rattle.partitioner.specs.Private.Loss.{is_fresh, is_kept, is_wanted, loss}
use Rattle.partitioner.specs.Private.Sets.{has}
use Rattle.partitioner.specs.Private.Spotting.{AreSpots}
use Rattle.partitioner.specs.Private.Tracking.{held_parts, reader_count}
use Rattle.node_reads.specs.Sources.{is_wide, other_readers}
use Rattle.partitioner.proofs.BelowLaws.{one_if_le, one_of_two}
use Rattle.partitioner.proofs.CountLaws.{any_by_count}
use Rattle.partitioner.proofs.GainLaws.{count_both, missed_in_all}
use Rattle.partitioner.proofs.LossLaws.{loss_at_least}
use Rattle.partitioner.proofs.SetLaws.{none_left, rest_step}

-- a turn in which some partitions were met: the latest count in them is of this turn
pub record IsTold (old new : Gains) (count : ℕ) (free : List (List ℕ)) (x own : ℕ) (left : List ℕ) : Type 0 where
  pub near_is : (r : ℕ) → near_in new r ≡ near_in old r + one_if (eqb (last_in new r) old.turn)
  pub past : (r : ℕ) → last_in new r ≤ old.turn
  pub own_met : last_in new own ≡ old.turn
  pub met : (r : ℕ) → r < count → has free x r ≡ true → (last_in new r ≡ old.turn) ⊎ (list_any (λ k. is_eq (nat_cmp r k)) left ≡ true)
  pub counted : new.counted ≡ old.counted
  pub from : new.from ≡ old.from
  pub turn : new.turn ≡ old.turn
  pub long : length new.spots.items ≡ count
  pub most : IsMost (near_in new) new.most

-- one more partition met
near_goes_on : (before near last near' last' : ℕ → ℕ) (turn q : ℕ) → ((r : ℕ) → near r ≡ before r + one_if (eqb (last r) turn)) → ((r : ℕ) → near' r ≡ near r + one_if (eqb q r && not (eqb (last r) turn))) → ((r : ℕ) → last' r ≡ cond (eqb q r) turn (last r)) → (r : ℕ) → near' r ≡ before r + one_if (eqb (last' r) turn)
near_goes_on before near last near' last' turn q is more latest r = go (cases_eq q r) (cases_eq (last r) turn)
  where
    none : (b : Bool) → (b && false) ≡ false
    none true = refl
    none false = refl

    same : q ≡ r → last' r ≡ turn
    same e = latest r ∙ ap (λ (b : Bool). cond b turn (last r)) (eq-eqb q r e)

    go : (q ≡ r) ⊎ (q ≡ r → ⊥) → (last r ≡ turn) ⊎ (last r ≡ turn → ⊥) → near' r ≡ before r + one_if (eqb (last' r) turn)
    go (inl e) (inl f) =
        let was : one_if (eqb (last r) turn) ≡ 1 = ap one_if (eq-eqb (last r) turn f) in
        let now : one_if (eqb (last' r) turn) ≡ 1 = ap one_if (eq-eqb (last' r) turn (same e)) in
        let added : one_if (eqb q r && not (eqb (last r) turn)) ≡ 0 = ap (λ (b : Bool). one_if (eqb q r && not b)) (eq-eqb (last r) turn f) ∙ ap one_if (none (eqb q r)) in
        omega (arith, was, now, added, is r, more r)
    go (inl e) (inr ne) =
        let was : one_if (eqb (last r) turn) ≡ 0 = ap one_if (ne_eqb (last r) turn ne) in
        let now : one_if (eqb (last' r) turn) ≡ 1 = ap one_if (eq-eqb (last' r) turn (same e)) in
        let added : one_if (eqb q r && not (eqb (last r) turn)) ≡ 1 = ap (λ (b : Bool). one_if (eqb q r && not b)) (ne_eqb (last r) turn ne) ∙ ap (λ (b : Bool). one_if (b && true)) (eq-eqb q r e) in
        omega (arith, was, now, added, is r, more r)
    go (inr ne) f =
        let added : one_if (eqb q r && not (eqb (last r) turn)) ≡ 0 = ap (λ (b : Bool). one_if (b && not (eqb (last r) turn))) (ne_eqb q r ne) in
        let now : one_if (eqb (last' r) turn) ≡ one_if (eqb (last r) turn) = ap (λ (k : ℕ). one_if (eqb k turn)) (latest r ∙ ap (λ (b : Bool). cond b turn (last r)) (ne_eqb q r ne)) in
        omega (arith, added, now, is r, more r)

last_here : (turn last : ℕ) (b : Bool) → last ≡ turn → cond b turn last ≡ turn
last_here turn last true e = refl
last_here turn last false e = e

last_past : (turn last : ℕ) (b : Bool) → last ≤ turn → cond b turn last ≤ turn
last_past turn last true l = omega arith
last_past turn last false l = l

-- what one more count tells
pub record IsMet (old new : Gains) (q : ℕ) : Type 0 where
  pub counted : new.counted ≡ old.counted
  pub from : new.from ≡ old.from
  pub turn : new.turn ≡ old.turn
  pub long : length new.spots.items ≡ length old.spots.items
  pub near : (r : ℕ) → near_in new r ≡ near_in old r + one_if (eqb q r && not (eqb (last_in old r) old.turn))
  pub last : (r : ℕ) → last_in new r ≡ cond (eqb q r) old.turn (last_in old r)
  pub most : IsMost (near_in new) new.most

-- the partition of the node itself is met first
pub told_first : (old new : Gains) (count : ℕ) (free : List (List ℕ)) (x own : ℕ) (left : List ℕ) → length old.spots.items ≡ count → ((r : ℕ) → last_in old r < old.turn) → IsMet old new own → ((r : ℕ) → has free x r ≡ true → list_any (λ k. is_eq (nat_cmp r k)) left ≡ true) → IsTold old new count free x own left
told_first old new count free x own left long low is all =
    record {
      near_is = near_goes_on (near_in old) (near_in old) (last_in old) (near_in new) (last_in new) old.turn own none is.near is.last;
      past = λ r. subst (λ (k : ℕ). k ≤ old.turn) (sym (is.last r)) (last_past old.turn (last_in old r) (eqb own r) (omega (arith, low r)));
      own_met = is.last own ∙ ap (λ (b : Bool). cond b old.turn (last_in old own)) (eq-eqb own own refl);
      met = λ r l h. inr (all r h);
      counted = is.counted;
      from = is.from;
      turn = is.turn;
      long = is.long ∙ long;
      most = is.most;
    }
  where
    none : (r : ℕ) → near_in old r ≡ near_in old r + one_if (eqb (last_in old r) old.turn)
    none r =
        let no : one_if (eqb (last_in old r) old.turn) ≡ 0 = ap one_if (ne_eqb (last_in old r) old.turn (λ e. omega (arith, e, low r))) in
        omega (arith, no)

-- and then each of the set
pub told_more : (old mid new : Gains) (count : ℕ) (free : List (List ℕ)) (x own q : ℕ) (left rest : List ℕ) → left ≡ q ∷ rest → IsTold old mid count free x own left → IsMet mid new q → IsTold old new count free x own rest
told_more old mid new count free x own q left rest e is step =
    record {
      near_is = near_goes_on (near_in old) (near_in mid) (last_in mid) (near_in new) (last_in new) old.turn q is.near_is
          (λ r. step.near r ∙ ap (λ (t : ℕ). near_in mid r + one_if (eqb q r && not (eqb (last_in mid r) t))) is.turn) latest;
      past = λ r. subst (λ (k : ℕ). k ≤ old.turn) (sym (latest r)) (last_past old.turn (last_in mid r) (eqb q r) (is.past r));
      own_met = latest own ∙ last_here old.turn (last_in mid own) (eqb q own) is.own_met;
      met = λ r l h. at r (is.met r l h);
      counted = step.counted ∙ is.counted;
      from = step.from ∙ is.from;
      turn = step.turn ∙ is.turn;
      long = step.long ∙ is.long;
      most = step.most;
    }
  where
    latest : (r : ℕ) → last_in new r ≡ cond (eqb q r) old.turn (last_in mid r)
    latest r = step.last r ∙ ap (λ (t : ℕ). cond (eqb q r) t (last_in mid r)) is.turn

    now : (r : ℕ) → (r ≡ q) ⊎ (list_any (λ k. is_eq (nat_cmp r k)) rest ≡ true) → (last_in new r ≡ old.turn) ⊎ (list_any (λ k. is_eq (nat_cmp r k)) rest ≡ true)
    now r (inl f) = inl (latest r ∙ ap (λ (b : Bool). cond b old.turn (last_in mid r)) (eq-eqb q r (sym f)))
    now r (inr h) = inr h

    at : (r : ℕ) → (last_in mid r ≡ old.turn) ⊎ (list_any (λ k. is_eq (nat_cmp r k)) left ≡ true) → (last_in new r ≡ old.turn) ⊎ (list_any (λ k. is_eq (nat_cmp r k)) rest ≡ true)
    at r (inl f) = inl (latest r ∙ last_here old.turn (last_in mid r) (eqb q r) f)
    at r (inr h) = now r (rest_step r q left rest e h)

-- what is no partition is left out
pub told_past : (old new : Gains) (count : ℕ) (free : List (List ℕ)) (x own q : ℕ) (left rest : List ℕ) → left ≡ q ∷ rest → count ≤ q → IsTold old new count free x own left → IsTold old new count free x own rest
told_past old new count free x own q left rest e past is =
    record {
      near_is = is.near_is;
      past = is.past;
      own_met = is.own_met;
      met = λ r l h. at r l (is.met r l h);
      counted = is.counted;
      from = is.from;
      turn = is.turn;
      long = is.long;
      most = is.most;
    }
  where
    later : (r : ℕ) → r < count → (r ≡ q) ⊎ (list_any (λ k. is_eq (nat_cmp r k)) rest ≡ true) → list_any (λ k. is_eq (nat_cmp r k)) rest ≡ true
    later r l (inl f) = absurd (omega (arith, l, f, past))
    later r l (inr h) = h

    at : (r : ℕ) → r < count → (last_in new r ≡ old.turn) ⊎ (list_any (λ k. is_eq (nat_cmp r k)) left ≡ true) → (last_in new r ≡ old.turn) ⊎ (list_any (λ k. is_eq (nat_cmp r k)) rest ≡ true)
    at r l (inl f) = inl f
    at r l (inr h) = inr (later r l (rest_step r q left rest e h))

pub told_few : (old new : Gains) (count : ℕ) (free : List (List ℕ)) (x own : ℕ) (left : List ℕ) (q : ℕ) → IsTold old new count free x own left → near_in new q ≤ near_in old q + 1
told_few old new count free x own left q is = omega (arith, is.near_is q, one_if_le (eqb (last_in new q) old.turn))

any_weaker : (f g : ℕ → Bool) (ys : List ℕ) → ((y : ℕ) → f y ≡ true → g y ≡ true) → list_any f ys ≡ true → list_any g ys ≡ true
any_weaker f g [] h e = e
any_weaker f g (y ∷ ys) h e = go (cases_Bool (f y)) (λ k. any_weaker f g ys h k)
  where
    or_true : (b : Bool) → (b || true) ≡ true
    or_true true = refl
    or_true false = refl

    go : (f y ≡ true) ⊎ (f y ≡ false) → (list_any f ys ≡ true → list_any g ys ≡ true) → (g y || list_any g ys) ≡ true
    go (inl k) later = ap (λ (b : Bool). b || list_any g ys) (h y k)
    go (inr k) later = ap (λ (b : Bool). g y || b) (later (sym (ap (λ (b : Bool). b || list_any f ys) k) ∙ e)) ∙ or_true (g y)

-- where some other node reads x, it is read
pub kept_read : (n : Net) (of : List ℕ) (i x q : ℕ) → is_kept n of i x q ≡ true → 0 < reader_count n of x q
unfolding reader_count
kept_read n of i x q e =
    let some = any_weaker (λ y. not (eqb i y) && eqb (get_or of y 0) q) (λ y. eqb (get_or of y 0) q) (other_readers n x) (λ y h. (and_parts (not (eqb i y)) (eqb (get_or of y 0) q) h).1) e in
    ltb-true 0 (reader_count n of x q) (sym (any_by_count (λ y. eqb (get_or of y 0) q) (other_readers n x)) ∙ some)

-- each partition with room in which x is near was met
pub told_near : (n : Net) (size : ℕ) (p : Partitioning) (spots : Spots) (old new : Gains) (x : ℕ) (left : List ℕ) → AreSpots n size (held_parts p) spots → x < length n.nodes → is_wide n x ≡ true → left ≡ [] → IsTold old new p.count spots.free x (get_or p.of.items x 0) left
    → (i q : ℕ) → q < p.count → has_room size (held_parts p) q ≡ true → near_in old q + one_if (is_near n p.of.items i q x) ≤ near_in new q
told_near n size p spots old new x left are l wide e is i q m room = go (cases_Bool (is_near n p.of.items i q x))
  where
    both : (b : Bool) → not (not b) ≡ true → b ≡ true
    both true f = refl
    both false f = f

    read : is_kept n p.of.items i x q ≡ true → last_in new q ≡ old.turn
    read k = at (is.met q m (are.free x q l m wide (kept_read n p.of.items i x q k) room))
      where
        at : (last_in new q ≡ old.turn) ⊎ (list_any (λ k. is_eq (nat_cmp q k)) left ≡ true) → last_in new q ≡ old.turn
        at (inl f) = f
        at (inr h) = absurd (none_left q left e h)

    met : is_near n p.of.items i q x ≡ true → (eqb (get_or p.of.items x 0) q ≡ true) ⊎ (eqb (get_or p.of.items x 0) q ≡ false) → last_in new q ≡ old.turn
    met f (inl k) = subst (λ (r : ℕ). last_in new r ≡ old.turn) (eqb-true (get_or p.of.items x 0) q k) is.own_met
    met f (inr k) = read (both (is_kept n p.of.items i x q) (sym (ap (λ (d : Bool). not (not d && not (is_kept n p.of.items i x q))) k) ∙ f))

    go : (is_near n p.of.items i q x ≡ true) ⊎ (is_near n p.of.items i q x ≡ false) → near_in old q + one_if (is_near n p.of.items i q x) ≤ near_in new q
    go (inl f) =
        let one : one_if (is_near n p.of.items i q x) ≡ 1 = ap one_if f in
        let now : one_if (eqb (last_in new q) old.turn) ≡ 1 = ap one_if (eq-eqb (last_in new q) old.turn (met f (cases_Bool (eqb (get_or p.of.items x 0) q)))) in
        omega (arith, one, now, is.near_is q)
    go (inr f) =
        let none : one_if (is_near n p.of.items i q x) ≡ 0 = ap one_if f in
        omega (arith, none, is.near_is q)

-- no hints
pub hints_none : (n : Net) (size : ℕ) (p : Partitioning) (i : ℕ) (gains hints : Gains) → IsCounted n p i gains → AreBegun p.count hints → ((q : ℕ) → near_in hints q ≡ 0) → AreHints n size p i gains hints
hints_none n size p i gains hints is begun none =
    record {
      kept = begun.kept;
      within = omega (arith, begun.none, is.gained.within);
      few = λ q. omega (arith, none q);
      above = λ q. omega (arith, none q);
      near = λ q l room. at q;
    }
  where
    at : (q : ℕ) → one_if (is_wanted n p.of.items i q) + count_by (is_near n p.of.items i q) (take (gains.counted + hints.counted) (get_or p.sources i [])) ≤ near_in gains q + near_in hints q
    at q =
        let same : gains.counted + hints.counted ≡ gains.counted = omega (arith, begun.none) in
        let counts = ap (λ (k : ℕ). count_by (is_near n p.of.items i q) (take k (get_or p.sources i []))) same in
        omega (arith, counts, is.gained.near q)

-- the hints up to source j
pub record Hinted (n : Net) (size : ℕ) (p : Partitioning) (i : ℕ) (row : List ℕ) (gains hints : Gains) (j : ℕ) : Type 0 where
  pub kept : AreKept p.count hints
  pub counted : gains.counted + hints.counted ≡ j
  pub within : j ≤ length row
  pub turn : hints.turn ≡ hints.from + hints.counted
  pub few : (q : ℕ) → near_in hints q ≤ hints.counted
  pub near : (q : ℕ) → q < p.count → has_room size (held_parts p) q ≡ true → one_if (is_wanted n p.of.items i q) + count_by (is_near n p.of.items i q) (take j row) ≤ near_in gains q + near_in hints q
  pub most : IsMost (near_in hints) hints.most

pub hinted_first : (n : Net) (size : ℕ) (p : Partitioning) (i : ℕ) (row : List ℕ) (gains hints : Gains) → row ≡ get_or p.sources i [] → IsCounted n p i gains → AreBegun p.count hints → ((q : ℕ) → near_in hints q ≡ 0) → Hinted n size p i row gains hints gains.counted
hinted_first n size p i row gains hints at is begun none = record {
  kept = begun.kept;
  counted = omega (arith, begun.none);
  within = omega (arith, is.gained.within, ap length at);
  turn = omega (arith, begun.none, begun.now);
  few = λ q. omega (arith, none q);
  near = λ q l room. omega (arith, is.gained.near q, none q, ap (λ (xs : List ℕ). count_by (is_near n p.of.items i q) (take gains.counted xs)) at);
  most = record { above = λ q. omega (arith, none q); least = λ bound h. omega (arith, begun.most) };
}

pub hinted_more : (n : Net) (size : ℕ) (p : Partitioning) (i : ℕ) (row : List ℕ) (gains old new : Gains) (j : ℕ) → Hinted n size p i row gains old j → j < length row → AreKept p.count new → new.counted ≡ old.counted + 1 → new.from ≡ old.from → new.turn ≡ old.turn + 1
    → ((q : ℕ) → q < p.count → has_room size (held_parts p) q ≡ true → near_in old q + one_if (is_near n p.of.items i q (get_or row j 0)) ≤ near_in new q) → ((q : ℕ) → near_in new q ≤ near_in old q + 1) → IsMost (near_in new) new.most → Hinted n size p i row gains new (j + 1)
hinted_more n size p i row gains old new j is l kept counted from turn near once most = record {
  kept = kept;
  counted = omega (arith, counted, is.counted);
  within = omega (arith, l);
  turn = omega (arith, turn, from, counted, is.turn);
  few = λ q. omega (arith, once q, is.few q, counted);
  near = λ q m room. omega (arith, near q m room, is.near q m room, sum_by_more (λ x. one_if (is_near n p.of.items i q x)) row j 0 l);
  most = most;
}

pub hinted_hints : (n : Net) (size : ℕ) (p : Partitioning) (i : ℕ) (row : List ℕ) (gains hints : Gains) (j : ℕ) → row ≡ get_or p.sources i [] → Hinted n size p i row gains hints j → AreHints n size p i gains hints
hinted_hints n size p i row gains hints j at is = record {
  kept = is.kept;
  within = omega (arith, is.counted, is.within, ap length at);
  few = is.few;
  above = is.most.above;
  near = λ q l room. omega (arith, is.near q l room, ap (λ (k : ℕ). count_by (is_near n p.of.items i q) (take k row)) is.counted, ap (λ (xs : List ℕ). count_by (is_near n p.of.items i q) (take (gains.counted + hints.counted) xs)) at);
}

-- a node loses no less than what the hints leave
pub hinted_loss : (n : Net) (size : ℕ) (p : Partitioning) (i q : ℕ) (gains hints : Gains) → IsCounted n p i gains → AreHints n size p i gains hints → q < p.count → has_room size (held_parts p) q ≡ true
    → (one_if (not (is_wanted n p.of.items i q)) + count_by (λ x. is_fresh n p.of.items i x q) (take gains.counted (get_or p.sources i []))) + (hints.counted - near_in hints q) ≤ loss n p.of.items i q
hinted_loss n size p i q gains hints is are l room =
    let row : List ℕ = get_or p.sources i [] in
    let all = gains.counted + hints.counted in
    let both = count_both (λ x. is_fresh n p.of.items i x q) (take all row) in
    let long = length-take all row in
    omega (arith, missed_in_all n p i q gains is.gained, are.near q l room, are.few q, are.within, both, long, one_of_two (is_wanted n p.of.items i q), loss_at_least n p.of.items i q row all (is.tracks.sources i is.node))

-- nor less than the highest counts leave
pub hinted_least : (n : Net) (size : ℕ) (p : Partitioning) (i q : ℕ) (gains hints : Gains) → IsCounted n p i gains → AreHints n size p i gains hints → q < p.count → has_room size (held_parts p) q ≡ true
    → (gains.counted + 1 + hints.counted) - (gains.most + hints.most) ≤ loss n p.of.items i q
hinted_least n size p i q gains hints is are l room =
    let row : List ℕ = get_or p.sources i [] in
    let all = gains.counted + hints.counted in
    let both = count_both (λ x. is_fresh n p.of.items i x q) (take all row) in
    let long = length-take all row in
    omega (arith, is.gained.most.above q, are.above q, are.near q l room, are.within, both, long, one_of_two (is_wanted n p.of.items i q), loss_at_least n p.of.items i q row all (is.tracks.sources i is.node))
