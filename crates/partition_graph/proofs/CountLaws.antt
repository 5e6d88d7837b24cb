-- Counts that grow entry by entry.
use Rattle.std.proofs.Common.{◌≡◌, ◌≢◌, ℕ, zero, suc, ◌+◌, ◌<◌, ◌≤◌, ◌⊎◌, inl, inr, Bool, true, false, ◌&&◌, List, length, map, slice_index, slice_set, refl, sym, ◌∙◌, ap, arith, add-one}
use Rattle.std.specs.Prelude.{◌==◌, nat_lt, max, replicate}
use Rattle.std.specs.List.{range_with_len}
use Rattle.std.proofs.lemmas.Bool.{cases_eq, eq-eqb, ne_eqb}
use Rattle.std.proofs.lemmas.Bool.Decides.{nat_tests}
use Rattle.std.proofs.lemmas.List.{get_or-set_same, get_or-set_other, get_or-replicate, length-set, length-replicate}
use Rattle.std.proofs.lemmas.List.FromFn.{get_or-map-range_with_len}
use Rattle.partitioner.specs.Below.{count_below, one_if}
use Rattle.partitioner.proofs.BelowLaws.{count_none, count_same, count_le}
use Rattle.partition_graph.specs.Places.{max_below}
use Rattle.partition_graph.specs.Private.Counting.{is_marked}

pub count_more : (k : ℕ) (p : ℕ → Bool) → count_below (k + 1) p ≡ count_below k p + one_if (p k)
unfolding count_below
count_more k p = ap (λ (m : ℕ). count_below m p) (add-one k)

pub max_more : (k : ℕ) (f : ℕ → ℕ) → max_below (k + 1) f ≡ max (max_below k f) (f k)
unfolding max_below
max_more k f = ap (λ (m : ℕ). max_below m f) (add-one k)

pub max_none : (f : ℕ → ℕ) → max_below 0 f ≡ 0
unfolding max_below
max_none f = refl

pub max_same : (k : ℕ) (f g : ℕ → ℕ) → ((x : ℕ) → x < k → f x ≡ g x) → max_below k f ≡ max_below k g
unfolding max_below
max_same zero f g same = refl
max_same (suc k) f g same =
    let before = max_same k f g (λ x l. same x (omega arith)) in
    let here = same k (omega arith) in
    ap (λ (m : ℕ). max m (f k)) before ∙ ap (max (max_below k g)) here

-- the entries of this value that have their bit set
abbrev pub is_counted : List ℕ → List Bool → ℕ → ℕ → Bool
is_counted values bits v x = slice_index values x == v && is_marked bits x

-- the counts of the first x entries
pub record AreSoFar (values : List ℕ) (bits : List Bool) (count x : ℕ) (counts : List ℕ) : Type 0 where
  pub long : length counts ≡ count
  pub each : (v : ℕ) → v < count → slice_index counts v ≡ count_below x (is_counted values bits v)

pub none_so_far : (values : List ℕ) (bits : List Bool) (count : ℕ) (counts : List ℕ) → counts ≡ replicate count 0 → AreSoFar values bits count 0 counts
none_so_far values bits count counts e = record {
  long = ap length e ∙ length-replicate count 0;
  each = λ v h. ap (λ (xs : List ℕ). slice_index xs v) e ∙ (get_or-replicate count v 0 0 h ∙ sym (count_none (is_counted values bits v)));
}

pub one_more : (values : List ℕ) (bits : List Bool) (count x q one : ℕ) (bit : Bool) (old new : List ℕ) → AreSoFar values bits count x old → q ≡ slice_index values x → q < count → bit ≡ is_marked bits x → one ≡ one_if bit
    → new ≡ slice_set old q (slice_index old q + one) → AreSoFar values bits count (x + 1) new
one_more values bits count x q one bit old new s at within told is set = record {
  long = ap length set ∙ (length-set old q (slice_index old q + one) ∙ s.long);
  each = λ v h. go v h (cases_eq v q);
}
  where
    go : (v : ℕ) → v < count → (v ≡ q) ⊎ (v ≢ q) → slice_index new v ≡ count_below (x + 1) (is_counted values bits v)
    go v h (inl same) =
        let own : (slice_index values x == v) ≡ true = eq-eqb (slice_index values x) v (sym at ∙ sym same) in
        let counted : one_if (is_counted values bits v x) ≡ one = ap (λ (b : Bool). one_if (b && is_marked bits x)) own ∙ (ap one_if (sym told) ∙ sym is) in
        let here : slice_index new q ≡ slice_index old q + one = ap (λ (xs : List ℕ). slice_index xs q) set ∙ get_or-set_same old q (slice_index old q + one) 0 (omega (arith, s.long, within)) in
        let there : slice_index new v ≡ slice_index old v + one = ap (slice_index new) same ∙ (here ∙ ap (λ (y : ℕ). slice_index old y + one) (sym same)) in
        omega (arith, there, s.each v h, count_more x (is_counted values bits v), counted)
    go v h (inr apart) =
        let other : (slice_index values x == v) ≡ false = ne_eqb (slice_index values x) v (λ e. apart (sym e ∙ sym at)) in
        let counted : one_if (is_counted values bits v x) ≡ 0 = ap (λ (b : Bool). one_if (b && is_marked bits x)) other in
        let there : slice_index new v ≡ slice_index old v = ap (λ (xs : List ℕ). slice_index xs v) set ∙ get_or-set_other old q v (slice_index old q + one) 0 apart in
        omega (arith, there, s.each v h, count_more x (is_counted values bits v), counted)

-- no count is above the number of entries
pub few_so_far : (values : List ℕ) (bits : List Bool) (count x : ℕ) (counts : List ℕ) (q : ℕ) → AreSoFar values bits count x counts → q < count → slice_index counts q ≤ x
few_so_far values bits count x counts q s h = omega (arith, s.each q h, count_le x (is_counted values bits q))

-- where all bits are set, all entries count
pub all_count : (values : List ℕ) (bits : List Bool) (v : ℕ) → bits ≡ replicate (length values) true
    → count_below (length values) (is_counted values bits v) ≡ count_below (length values) (λ x. slice_index values x == v)
all_count values bits v e =
    count_same (length values) (is_counted values bits v) (λ x. slice_index values x == v)
    (λ x h. ap (λ (b : Bool). slice_index values x == v && b) (ap (λ (bs : List Bool). is_marked bs x) e ∙ get_or-replicate (length values) x true false h) ∙ and_true (slice_index values x == v))
  where
    and_true : (b : Bool) → (b && true) ≡ b
    and_true true = refl
    and_true false = refl

-- where the bits tell a test, those that pass count
pub told_count : (values : List ℕ) (bits : List Bool) (test : ℕ → Bool) (v : ℕ) → bits ≡ map test (range_with_len 0 (length values))
    → count_below (length values) (is_counted values bits v) ≡ count_below (length values) (λ x. slice_index values x == v && test x)
told_count values bits test v e =
    count_same (length values) (is_counted values bits v) (λ x. slice_index values x == v && test x)
    (λ x h. ap (λ (b : Bool). slice_index values x == v && b) (ap (λ (bs : List Bool). is_marked bs x) e ∙ get_or-map-range_with_len test 0 (length values) x x false h (omega arith)))

-- ---- counts of what is above a number

pub count_split : (k : ℕ) (p q r : ℕ → Bool) → ((x : ℕ) → x < k → one_if (p x) ≡ one_if (q x) + one_if (r x)) → count_below k p ≡ count_below k q + count_below k r
unfolding count_below
count_split zero p q r same = refl
count_split (suc k) p q r same =
    let before = count_split k p q r (λ x l. same x (omega arith)) in
    let here = same k (omega arith) in
    omega (arith, before, here)

one_above : (m v : ℕ) → one_if (nat_lt m v) ≡ one_if (v == suc m) + one_if (nat_lt (suc m) v)
one_above m v = grind (arith, nat_tests)

pub more_above : (k m : ℕ) (v : ℕ → ℕ) → count_below k (λ q. nat_lt m (v q)) ≡ count_below k (λ q. v q == suc m) + count_below k (λ q. nat_lt (suc m) (v q))
more_above k m v = count_split k (λ q. nat_lt m (v q)) (λ q. v q == suc m) (λ q. nat_lt (suc m) (v q)) (λ x l. one_above m (v x))

pub none_pass : (k : ℕ) (p : ℕ → Bool) → ((x : ℕ) → x < k → p x ≡ false) → count_below k p ≡ 0
unfolding count_below
none_pass zero p none = refl
none_pass (suc k) p none =
    let before = none_pass k p (λ x l. none x (omega arith)) in
    let here : one_if (p k) ≡ 0 = ap one_if (none k (omega arith)) in
    omega (arith, before, here)

-- ---- the greatest number so far

pub most_more : (xs : List ℕ) (i most new : ℕ) → new ≡ max most (slice_index xs i) → most ≡ max_below i (slice_index xs) → new ≡ max_below (i + 1) (slice_index xs)
most_more xs i most new is before = is ∙ (ap (λ (m : ℕ). max m (slice_index xs i)) before ∙ sym (max_more i (slice_index xs)))

pub above_more : (xs : List ℕ) (i most new : ℕ) → new ≡ max most (slice_index xs i) → ((j : ℕ) → j < i → slice_index xs j ≤ most) → (j : ℕ) → j < i + 1 → slice_index xs j ≤ new
above_more xs i most new is before j h = go (cases_eq j i)
  where
    go : (j ≡ i) ⊎ (j ≢ i) → slice_index xs j ≤ new
    go (inl e) = let same : slice_index xs j ≡ slice_index xs i = ap (slice_index xs) e in omega (arith, same, is)
    go (inr ne) = omega (arith, before j (omega (arith, h, ne)), is)

pub max_le : (k m : ℕ) (f : ℕ → ℕ) → ((x : ℕ) → x < k → f x ≤ m) → max_below k f ≤ m
unfolding max_below
max_le zero m f h = omega arith
max_le (suc k) m f h =
    let before = max_le k m f (λ x l. h x (omega arith)) in
    let here = h k (omega arith) in
    omega (arith, before, here)

pub count_some : (k : ℕ) (p : ℕ → Bool) (x : ℕ) → x < k → p x ≡ true → 0 < count_below k p
unfolding count_below
count_some zero p x h e = absurd (omega arith)
count_some (suc k) p x h e = go (cases_eq x k) (λ l. count_some k p x l e)
  where
    go : (x ≡ k) ⊎ (x ≢ k) → (x < k → 0 < count_below k p) → 0 < count_below k p + one_if (p k)
    go (inl same) before = let one : one_if (p k) ≡ 1 = ap (λ (z : ℕ). one_if (p z)) (sym same) ∙ ap one_if e in omega (arith, one)
    go (inr ne) before = omega (arith, before (omega (arith, h, ne)))

pub count_fewer : (k : ℕ) (p q : ℕ → Bool) → ((x : ℕ) → x < k → one_if (p x) ≤ one_if (q x)) → count_below k p ≤ count_below k q
unfolding count_below
count_fewer zero p q le = omega arith
count_fewer (suc k) p q le =
    let before = count_fewer k p q (λ x l. le x (omega arith)) in
    let here = le k (omega arith) in
    omega (arith, before, here)
