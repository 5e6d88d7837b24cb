-- Counting all partitions, 64 at once.
use Rattle.std.proofs.Common.{◌≡◌, ℕ, ◌+◌, ◌-◌, ◌*◌, ◌/◌, ◌^◌, ◌<◌, ◌≤◌, ◌⊎◌, inl, inr, Bool, true, false, eqb, not, ◌&&◌, List, [], length, take, get_or, refl, sym, ◌∙◌, ap, subst, arith, IsPermutation}
use Rattle.std.specs.List.{count_by}
use Rattle.std.specs.Prelude.{nat_eq, bit_and}
use Rattle.std.proofs.lemmas.Nat.Bits.{shr_and_one}
use Rattle.std.proofs.lemmas.Bool.{cases_Bool, cases_eq, cases_lt, eqb-true, true≢false}
use Rattle.std.proofs.lemmas.List.{length-take}
use Rattle.std.proofs.lemmas.List.Sums.{sum_by_more}
use Rattle.flat_net.specs.Net.{Net}
use Rattle.table_cover.specs.Words.{word_bit}
use Rattle.partitioner.specs.declared.counts.partitioning.Partitioning.{Partitioning}
use Rattle.partitioner.specs.declared.costs.gains.Gains.{Gains}
use Rattle.partitioner.specs.declared.counts.rows.Level.{Level}
use Rattle.partitioner.specs.declared.costs.lanes.Lanes.{Lanes}
use Rattle.partitioner.specs.declared.refinement.placing.Lead.{Lead}
use Rattle.partitioner.specs.Below.{one_if}
use Rattle.node_reads.specs.Sources.{is_wide, other_sources}
use Rattle.partitioner.specs.Private.Gaining.{IsCounted, is_near, near_in}
use Rattle.partitioner.specs.Private.Lanes.{Reaches, lane_value}
use Rattle.partitioner.specs.Private.Leading.{IsLead, Leads, LeadsOpen, start_of}
use Rattle.partitioner.specs.Private.Loss.{is_fresh, is_kept, is_wanted, loss}
use Rattle.partitioner.specs.Private.Marks.{is_marked, lane_of}
use Rattle.partitioner.specs.Private.Scanning.{AreCounted, AreShut, AreTried, IsNeeded, near_first}
use Rattle.partitioner.specs.Private.Tracking.{IsBeside, Tracks}
use Rattle.partitioner.proofs.BelowLaws.{one_if_le, one_of_two}
use Rattle.partitioner.proofs.GainLaws.{count_both}
use Rattle.partitioner.proofs.HintLaws.{kept_read}
use Rattle.partitioner.proofs.LossLaws.{loss_at_least}
use Rattle.partitioner.proofs.MarkLaws.{bit_past}

-- a bit that is shifted down to the lowest place
pub bit_tested : (word j : ℕ) → nat_eq (bit_and (word / 2 ^ j) 1) 1 ≡ word_bit j word
unfolding word_bit
bit_tested word j = ap (λ (b : ℕ). nat_eq b 1) (shr_and_one word j)

-- what is near stands there or is read there
near_beside : (n : Net) (of : List ℕ) (i q x : ℕ) → is_near n of i q x ≡ true → IsBeside n of x q
near_beside n of i q x e = go (cases_Bool (eqb (get_or of x 0) q)) e
  where
    both : (b : Bool) → not (not b) ≡ true → b ≡ true
    both true f = refl
    both false f = f

    go : (eqb (get_or of x 0) q ≡ true) ⊎ (eqb (get_or of x 0) q ≡ false) → is_near n of i q x ≡ true → IsBeside n of x q
    go (inl k) f = inl (eqb-true (get_or of x 0) q k)
    go (inr k) f = inr (kept_read n of i x q (both (is_kept n of i x q) (sym (ap (λ (d : Bool). not (not d && not (is_kept n of i x q))) k) ∙ f)))

-- it is marked there
near_marked : (n : Net) (p : Partitioning) (i q x : ℕ) → Tracks n p → x < length n.nodes → q < p.count → is_near n p.of.items i q x ≡ true → is_marked p.marks x q ≡ true
near_marked n p i q x tracks l within near = go (cases_Bool (is_wide n x))
  where
    go : (is_wide n x ≡ true) ⊎ (is_wide n x ≡ false) → is_marked p.marks x q ≡ true
    go (inl wide) = tracks.marks.marked x q l within wide (near_beside n p.of.items i q x near)
    go (inr narrow) = bit_past (get_or p.marks x []) q (omega (arith, tracks.marks.narrow x l narrow))

one_if_true : (a b : Bool) → (a ≡ true → b ≡ true) → one_if a ≤ one_if b
one_if_true true b h = let e : one_if b ≡ 1 = ap one_if (h refl) in omega (arith, e)
one_if_true false b h = omega arith

reaches_less : (lanes : Lanes) (c j k : ℕ) → j ≤ k → Reaches lanes c k → Reaches lanes c j
reaches_less lanes c j k l (inl e) = inl e
reaches_less lanes c j k l (inr h) = inr (omega (arith, h, l))

-- the lanes, and what the gains count
pub record LanesCounted (n : Net) (p : Partitioning) (i : ℕ) (gains : Gains) (level : Level) (w bias : ℕ) (lanes : Lanes) (j : ℕ) : Type 0 where
  pub from : gains.counted ≤ j
  pub past : (q : ℕ) → near_in gains q ≤ near_first n p i q j
  pub reached : AreCounted n p i gains level w bias lanes j

pub lanes_first : (n : Net) (p : Partitioning) (i : ℕ) (gains : Gains) (level : Level) (w bias : ℕ) (lanes : Lanes) → IsCounted n p i gains → ((c : ℕ) → c < 64 → lane_value lanes c ≡ bias) → LanesCounted n p i gains level w bias lanes gains.counted
lanes_first n p i gains level w bias lanes is value = record {
  from = omega arith;
  past = λ q. omega (arith, is.gained.near q);
  reached = λ c q l within at. inr (omega (arith, is.gained.near q, value c l));
}

pub lanes_more : (n : Net) (p : Partitioning) (i : ℕ) (gains : Gains) (level : Level) (w bias : ℕ) (old new : Lanes) (row : List ℕ) (j word : ℕ) → Tracks n p → row ≡ get_or p.sources i [] → j < length row → get_or row j 0 < length n.nodes
    → ((c q : ℕ) → c < 64 → lane_of level q ≡ w * 64 + c → is_marked p.marks (get_or row j 0) q ≡ true → word_bit c word ≡ true) → ((c k : ℕ) → Reaches old c k → Reaches new c (k + one_if (word_bit c word)))
    → LanesCounted n p i gains level w bias old j → LanesCounted n p i gains level w bias new (j + 1)
lanes_more n p i gains level w bias old new row j word tracks at l below marked added before = record {
  from = omega (arith, before.from);
  past = λ q. omega (arith, before.past q, more q);
  reached = λ c q m within lane. reached c q m within lane;
}
  where
    x : ℕ
    x = get_or row j 0

    more : (q : ℕ) → near_first n p i q (j + 1) ≡ near_first n p i q j + one_if (is_near n p.of.items i q x)
    more q =
        let step = sum_by_more (λ x. one_if (is_near n p.of.items i q x)) row j 0 l in
        let now = ap (λ (xs : List ℕ). count_by (is_near n p.of.items i q) (take (j + 1) xs)) at in
        let was = ap (λ (xs : List ℕ). count_by (is_near n p.of.items i q) (take j xs)) at in
        omega (arith, step, now, was)

    reached : (c q : ℕ) → c < 64 → q < p.count → lane_of level q ≡ w * 64 + c → Reaches new c (bias + (near_first n p i q (j + 1) - near_in gains q))
    reached c q m within lane =
        let near : one_if (is_near n p.of.items i q x) ≤ one_if (word_bit c word) = one_if_true (is_near n p.of.items i q x) (word_bit c word) (λ e. marked c q m lane (near_marked n p i q x tracks below within e)) in
        reaches_less new c (bias + (near_first n p i q (j + 1) - near_in gains q)) ((bias + (near_first n p i q j - near_in gains q)) + one_if (word_bit c word))
        (omega (arith, near, more q, before.past q))
        (added c (bias + (near_first n p i q j - near_in gains q)) (before.reached c q m within lane))

lane_few : (lanes : Lanes) (c : ℕ) → lane_value lanes c ≤ 15
lane_few lanes c = omega (arith, one_if_le (word_bit c lanes.ones), one_if_le (word_bit c lanes.twos), one_if_le (word_bit c lanes.fours), one_if_le (word_bit c lanes.eights))

-- a partition in which too few are near does not take the lead
pub shut_leads : (n : Net) (p : Partitioning) (i : ℕ) (gains : Gains) (level : Level) (w first need bias : ℕ) (lead : Lead) (lanes : Lanes) (row : List ℕ) → IsCounted n p i gains → row ≡ get_or p.sources i [] → lead.loss ≡ loss n p.of.items i lead.place
    → ((c q : ℕ) → lane_of level q ≡ w * 64 + c → first ≤ q) → IsNeeded (length row) (start_of p i) first gains.most lead need → 0 < need → 16 ≤ bias + need → AreCounted n p i gains level w bias lanes (length row)
    → AreShut n p i level (w * 64) lanes.over lead.place
shut_leads n p i gains level w first need bias lead lanes row is at value before needed some enough counted c q m within lane shut = by (counted c q m within lane)
  where
    all : length row + 1 ≤ near_first n p i q (length row) + loss n p.of.items i q
    all =
        let both = count_both (λ x. is_fresh n p.of.items i x q) (take (length row) row) in
        let long = length-take (length row) row in
        let here = ap (λ (xs : List ℕ). count_by (is_near n p.of.items i q) (take (length row) xs)) at in
        let perm : IsPermutation (other_sources n i) row = subst (λ (xs : List ℕ). IsPermutation (other_sources n i) xs) (sym at) (is.tracks.sources i is.node) in
        omega (arith, both, long, here, one_of_two (is_wanted n p.of.items i q), loss_at_least n p.of.items i q row (length row) perm)

    ends : lead.loss ≤ loss n p.of.items i q → (lead.place ≡ start_of p i) ⊎ (lead.place ≤ first) → (loss n p.of.items i lead.place < loss n p.of.items i q) ⊎ (loss n p.of.items i q ≤ loss n p.of.items i lead.place) → Leads n p i lead.place q
    ends l from (inl h) = inl h
    ends l (inl e) (inr h) = inr (omega (arith, l, value, h), inl e)
    ends l (inr e) (inr h) = inr (omega (arith, l, value, h), inr (omega (arith, e, before c q lane)))

    by : Reaches lanes c (bias + (near_first n p i q (length row) - near_in gains q)) → Leads n p i lead.place q
    by (inl e) = absurd (true≢false (sym e ∙ shut))
    by (inr l) = go (needed some)
      where
        few : near_first n p i q (length row) + 1 ≤ gains.most + need
        few = omega (arith, l, lane_few lanes c, is.gained.most.above q, enough, some)

        go : (need + (lead.loss + gains.most) ≤ length row + 1) ⊎ ((need + (lead.loss + gains.most) ≤ length row + 2) × ((lead.place ≡ start_of p i) ⊎ (lead.place ≤ first))) → Leads n p i lead.place q
        go (inl h) = inl (omega (arith, h, few, all, value))
        go (inr h) = ends (omega (arith, h.0, few, all)) h.1 (cases_lt (loss n p.of.items i lead.place) (loss n p.of.items i q))

-- the lead after the first lanes of a word
pub record Laned (n : Net) (size : ℕ) (p : Partitioning) (i : ℕ) (before : Lead) (level : Level) (first : ℕ) (now : Lead) (c : ℕ) : Type 0 where
  pub lead : IsLead n size p i now
  pub kept : (q : ℕ) → Leads n p i before.place q → Leads n p i now.place q
  pub tried : AreTried n size p i level first c now.place

pub laned_tried : (n : Net) (size : ℕ) (p : Partitioning) (i : ℕ) (before : Lead) (level : Level) (first : ℕ) (old new : Lead) (c : ℕ) → Laned n size p i before level first old c → IsLead n size p i new → ((q : ℕ) → Leads n p i old.place q → Leads n p i new.place q)
    → ((q : ℕ) → q < p.count → lane_of level q ≡ first + c → LeadsOpen n size p i new.place q) → Laned n size p i before level first new (c + 1)
laned_tried n size p i before level first old new c is lead kept here = record {
  lead = lead;
  kept = λ q h. kept q (is.kept q h);
  tried = λ d q l within lane. at d q l within lane (cases_eq d c);
}
  where
    at : (d q : ℕ) → d < c + 1 → q < p.count → lane_of level q ≡ first + d → (d ≡ c) ⊎ (d ≡ c → ⊥) → LeadsOpen n size p i new.place q
    at d q l within lane (inl e) = here q within (lane ∙ ap (λ (k : ℕ). first + k) e)
    at d q l within lane (inr ne) = λ room. kept q (is.tried d q (omega (arith, l, ne)) within lane room)

pub laned_shut : (n : Net) (size : ℕ) (p : Partitioning) (i : ℕ) (before : Lead) (level : Level) (first : ℕ) (now : Lead) (c : ℕ) → Laned n size p i before level first now c → ((q : ℕ) → q < p.count → lane_of level q ≡ first + c → Leads n p i before.place q)
    → Laned n size p i before level first now (c + 1)
laned_shut n size p i before level first now c is shut = record {
  lead = is.lead;
  kept = is.kept;
  tried = λ d q l within lane. at d q l within lane (cases_eq d c);
}
  where
    at : (d q : ℕ) → d < c + 1 → q < p.count → lane_of level q ≡ first + d → (d ≡ c) ⊎ (d ≡ c → ⊥) → LeadsOpen n size p i now.place q
    at d q l within lane (inl e) = λ room. is.kept q (shut q within (lane ∙ ap (λ (k : ℕ). first + k) e))
    at d q l within lane (inr ne) = is.tried d q (omega (arith, l, ne)) within lane
