-- Counts that grow node by node.
use Rattle.std.proofs.Common.{◌≡◌, ◌≢◌, ℕ, suc, ◌+◌, ◌-◌, ◌<◌, ◌≤◌, ◌⊎◌, inl, inr, Bool, true, false, ◌&&◌, ◌||◌, not, List, [], ◌∷◌, ◌++◌, length, take, map, get_or, slice_get, slice_index, slice_set, Some, refl, sym, ◌∙◌, ap, arith}
use Rattle.std.specs.Prelude.{◌==◌, nat_eq, count_by, replicate}
use Rattle.std.specs.List.{list_any, range_with_len}
use Rattle.std.proofs.lemmas.Bool.{cases_eq, eq-eqb, ne_eqb}
use Rattle.std.proofs.lemmas.List.{get_or-set_same, get_or-set_other, get_or-replicate, length-set, length-replicate, take_more}
use Rattle.std.proofs.lemmas.List.Folds.{list_any-append}
use Rattle.std.proofs.lemmas.List.FromFn.{get_or-map-range_with_len, map-range_with_len_more}
use Rattle.std.proofs.lemmas.List.Sums.{count_by_more_yes, count_by_more_no}
use Rattle.std.proofs.lemmas.Option.{get_or_from_slice_get}
use Rattle.tmr_base.specs.Parts.{PlainParts}
use Rattle.flat_net.proofs.Slots.{slot_at}
use Rattle.certificate.specs.declared.role.Role.{Role}
use Rattle.certificate.specs.Cert.{PlainCert, part_of, role_of}
use Rattle.feedback_cut.specs.Components.{PlainGroups, component_of, has_loop}
use Rattle.recovery_depth.specs.Walks.{is_marked}
use Rattle.partitioner.specs.Below.{count_below, one_if}
use Rattle.partitioner.proofs.BelowLaws.{count_none, count_same, count_le}
use Rattle.reports.specs.Counts.{partitions}
use Rattle.reports.specs.Private.Left.{AreCountsOf, heads_loop}

-- ---- numbers of a partition

pub count_more : (k : ℕ) (p : ℕ → Bool) → count_below (k + 1) p ≡ count_below k p + one_if (p k)
unfolding count_below
count_more k p = let e : k + 1 ≡ suc k = omega arith in ap (λ (m : ℕ). count_below m p) e

-- the nodes of partition p that have their bit set
abbrev pub is_counted : List ℕ → List Bool → ℕ → ℕ → Bool
is_counted of bits p x = slice_index of x == p && is_marked bits x

pub counts_none : (of : List ℕ) (bits : List Bool) (count : ℕ) (counts : List ℕ) → counts ≡ replicate count 0 → (p : ℕ) → p < count → slice_index counts p ≡ count_below 0 (is_counted of bits p)
counts_none of bits count counts e p h = ap (λ (xs : List ℕ). slice_index xs p) e ∙ (get_or-replicate count p 0 0 h ∙ sym (count_none (is_counted of bits p)))

pub counts_more : (of : List ℕ) (bits : List Bool) (count x q one : ℕ) (old new : List ℕ) → length old ≡ count → q ≡ slice_index of x → q < count → one ≡ one_if (is_marked bits x) → new ≡ slice_set old q (slice_index old q + one)
    → ((p : ℕ) → p < count → slice_index old p ≡ count_below x (is_counted of bits p)) → (p : ℕ) → p < count → slice_index new p ≡ count_below (x + 1) (is_counted of bits p)
counts_more of bits count x q one old new long at within bit set before p h = go (cases_eq p q)
  where
    more : count_below (x + 1) (is_counted of bits p) ≡ count_below x (is_counted of bits p) + one_if (is_counted of bits p x)
    more = count_more x (is_counted of bits p)

    go : (p ≡ q) ⊎ (p ≢ q) → slice_index new p ≡ count_below (x + 1) (is_counted of bits p)
    go (inl same) =
        let own : (slice_index of x == p) ≡ true = eq-eqb (slice_index of x) p (sym at ∙ sym same) in
        let counted : one_if (is_counted of bits p x) ≡ one = ap (λ (b : Bool). one_if (b && is_marked bits x)) own ∙ sym bit in
        let here : slice_index new q ≡ slice_index old q + one = ap (λ (xs : List ℕ). slice_index xs q) set ∙ get_or-set_same old q (slice_index old q + one) 0 (omega (arith, long, within)) in
        let there : slice_index new p ≡ slice_index old p + one = ap (slice_index new) same ∙ (here ∙ ap (λ (y : ℕ). slice_index old y + one) (sym same)) in
        omega (arith, there, before p h, more, counted)
    go (inr apart) =
        let other : (slice_index of x == p) ≡ false = ne_eqb (slice_index of x) p (λ e. apart (sym e ∙ sym at)) in
        let counted : one_if (is_counted of bits p x) ≡ 0 = ap (λ (b : Bool). one_if (b && is_marked bits x)) other in
        let there : slice_index new p ≡ slice_index old p = ap (λ (xs : List ℕ). slice_index xs p) set ∙ get_or-set_other old q p (slice_index old q + one) 0 apart in
        omega (arith, there, before p h, more, counted)

-- the counts of the first x nodes
pub record AreSoFar (of : List ℕ) (bits : List Bool) (count x : ℕ) (counts : List ℕ) : Type 0 where
  pub long : length counts ≡ count
  pub each : (p : ℕ) → p < count → slice_index counts p ≡ count_below x (is_counted of bits p)

pub none_so_far : (of : List ℕ) (bits : List Bool) (size count : ℕ) (counts : List ℕ) → size ≡ count → counts ≡ replicate size 0 → AreSoFar of bits count 0 counts
none_so_far of bits size count counts same e = record {
  long = ap length e ∙ (length-replicate size 0 ∙ same);
  each = λ p h. counts_none of bits size counts e p (omega (arith, h, same));
}

pub one_more_node : (of : List ℕ) (bits : List Bool) (count x q one : ℕ) (bit : Bool) (old new : List ℕ) → AreSoFar of bits count x old → q ≡ slice_index of x → q < count → bit ≡ is_marked bits x → one ≡ one_if bit → new ≡ slice_set old q (slice_index old q + one) → AreSoFar of bits count (x + 1) new
one_more_node of bits count x q one bit old new s at within told is set = record {
  long = ap length set ∙ (length-set old q (slice_index old q + one) ∙ s.long);
  each = counts_more of bits count x q one old new s.long at within (is ∙ ap one_if told) set s.each;
}

-- no count is above the number of nodes
pub few_so_far : (of : List ℕ) (bits : List Bool) (count x : ℕ) (counts : List ℕ) (q : ℕ) → AreSoFar of bits count x counts → q < count → slice_index counts q ≤ x
few_so_far of bits count x counts q s h = omega (arith, s.each q h, count_le x (is_counted of bits q))

-- the counts are those of a test that the bits tell
pub counts_are : (k : PlainCert) (parts : PlainParts) (bits : List Bool) (test : ℕ → Bool) (counts : List ℕ) → parts ≡ partitions k → ((x : ℕ) → x < length k.part → is_marked bits x ≡ test x) → length counts ≡ parts.count
    → ((p : ℕ) → p < parts.count → slice_index counts p ≡ count_below (length parts.of) (is_counted parts.of bits p)) → AreCountsOf k test counts
counts_are k parts bits test counts same told long are = record {
  long = long ∙ ap (λ (ps : PlainParts). ps.count) same;
  count = λ p h.
      are p (omega (arith, h, ap (λ (ps : PlainParts). ps.count) same))
      ∙ (ap (λ (ps : PlainParts). count_below (length ps.of) (is_counted ps.of bits p)) same
      ∙ count_same (length k.part) (is_counted k.part bits p) (λ x. slice_index k.part x == p && test x) (λ x l. ap (λ (b : Bool). slice_index k.part x == p && b) (told x l)));
}

pub all_told : (n : ℕ) (bits : List Bool) → bits ≡ replicate n true → (x : ℕ) → x < n → is_marked bits x ≡ true
all_told n bits e x h = ap (λ (bs : List Bool). is_marked bs x) e ∙ get_or-replicate n x true false h

pub each_told : (f : ℕ → Bool) (n : ℕ) (bits : List Bool) → bits ≡ map f (range_with_len 0 n) → (x : ℕ) → x < n → is_marked bits x ≡ f x
each_told f n bits e x h = ap (λ (bs : List Bool). is_marked bs x) e ∙ get_or-map-range_with_len f 0 n x x false h (omega arith)

-- ---- components that were seen

-- component j has a node among the first x
abbrev pub was_seen : List ℕ → ℕ → ℕ → Bool
was_seen of x j = list_any (nat_eq j) (take x of)

or_false : (b : Bool) → (b || false) ≡ b
or_false true = refl
or_false false = refl

or_true : (b : Bool) → (b || true) ≡ true
or_true true = refl
or_true false = refl

seen_more : (of : List ℕ) (x j : ℕ) → x < length of → was_seen of (x + 1) j ≡ (was_seen of x j || (nat_eq j (get_or of x 0) || false))
seen_more of x j h = ap (list_any (nat_eq j)) (take_more of x 0 h) ∙ list_any-append (nat_eq j) (take x of) (get_or of x 0 ∷ [])

pub seen_none : (of : List ℕ) (count : ℕ) (seen : List Bool) → seen ≡ replicate count false → (j : ℕ) → j < count → is_marked seen j ≡ was_seen of 0 j
seen_none of count seen e j h = ap (λ (bs : List Bool). is_marked bs j) e ∙ get_or-replicate count j false false h

pub seen_next : (of : List ℕ) (count x q : ℕ) (old new : List Bool) → x < length of → length old ≡ count → q ≡ get_or of x 0 → q < count → new ≡ slice_set old q true → ((j : ℕ) → j < count → is_marked old j ≡ was_seen of x j) → (j : ℕ) → j < count → is_marked new j ≡ was_seen of (x + 1) j
seen_next of count x q old new h long at within set before j l = go (cases_eq j q)
  where
    go : (j ≡ q) ⊎ (j ≢ q) → is_marked new j ≡ was_seen of (x + 1) j
    go (inl same) =
        let own : nat_eq j (get_or of x 0) ≡ true = eq-eqb j (get_or of x 0) (same ∙ at) in
        ap (is_marked new) same ∙ (ap (λ (bs : List Bool). is_marked bs q) set ∙ (get_or-set_same old q true false (omega (arith, long, within))
        ∙ sym (seen_more of x j h ∙ (ap (λ (b : Bool). was_seen of x j || (b || false)) own ∙ or_true (was_seen of x j)))))
    go (inr apart) =
        let other : nat_eq j (get_or of x 0) ≡ false = ne_eqb j (get_or of x 0) (λ e. apart (e ∙ sym at)) in
        ap (λ (bs : List Bool). is_marked bs j) set ∙ (get_or-set_other old q j true false apart ∙ (before j l
        ∙ sym (seen_more of x j h ∙ (ap (λ (b : Bool). was_seen of x j || (b || false)) other ∙ or_false (was_seen of x j)))))

pub head_is : (g : PlainGroups) (x q : ℕ) (loop seen head : Bool) → q ≡ component_of g x → loop ≡ has_loop g q → seen ≡ was_seen g.of x q → head ≡ (loop && not seen) → head ≡ heads_loop g x
head_is g x q loop seen head at has was is =
    is ∙ (ap (λ (b : Bool). b && not seen) has ∙ (ap (λ (b : Bool). has_loop g q && not b) was ∙ ap (λ (j : ℕ). has_loop g j && not (list_any (nat_eq j) (take x g.of))) at))

-- what is known of the first x nodes
pub record AreHeads (g : PlainGroups) (x : ℕ) (seen heads : List Bool) : Type 0 where
  pub long : length seen ≡ length g.loops
  pub seen_are : (j : ℕ) → j < length g.loops → is_marked seen j ≡ was_seen g.of x j
  pub heads_are : heads ≡ map (heads_loop g) (range_with_len 0 x)

pub no_heads : (g : PlainGroups) (size : ℕ) (seen heads : List Bool) → size ≡ length g.loops → seen ≡ replicate size false → heads ≡ [] → AreHeads g 0 seen heads
no_heads g size seen heads same e none = record {
  long = ap length e ∙ (length-replicate size false ∙ same);
  seen_are = λ j h. seen_none g.of size seen e j (omega (arith, h, same));
  heads_are = none;
}

pub one_more_head : (g : PlainGroups) (x q : ℕ) (loop was head : Bool) (seen heads next more : List Bool) → AreHeads g x seen heads → x < length g.of → q ≡ component_of g x → q < length g.loops → loop ≡ has_loop g q → was ≡ is_marked seen q → head ≡ (loop && not was) → more ≡ heads ++ head ∷ [] → next ≡ slice_set seen q true → AreHeads g (x + 1) next more
one_more_head g x q loop was head seen heads next more s h at within has told is pushed set = record {
  long = ap length set ∙ (length-set seen q true ∙ s.long);
  seen_are = seen_next g.of (length g.loops) x q seen next h s.long at within set s.seen_are;
  heads_are =
      let head_of = head_is g x q loop was head at has (told ∙ s.seen_are q within) is in
      pushed ∙ (ap (λ (hs : List Bool). hs ++ head ∷ []) s.heads_are ∙ (ap (λ (b : Bool). map (heads_loop g) (range_with_len 0 x) ++ b ∷ []) head_of ∙ sym (map-range_with_len_more (heads_loop g) 0 x x (omega arith))));
}

-- ---- roles and partitions, one more

pub role_more : (p : Role → Bool) (k : PlainCert) (g net old new one : ℕ) (role : Role) (bit : Bool) → net ≡ k.hardened_inputs + g → role_of k net ≡ Some role → g < length k.roles → bit ≡ p role → one ≡ one_if bit → old ≡ count_by p (take g k.roles) → new ≡ old + one → new ≡ count_by p (take (g + 1) k.roles)
role_more p k g net old new one role bit at there h told counted before more = go (p role) refl
  where
    place : net - k.hardened_inputs ≡ g
    place = omega arith

    here : get_or k.roles g role ≡ role
    here = get_or_from_slice_get k.roles g role role (sym (slot_at k.hardened_inputs k.roles net (omega arith) ∙ ap (slice_get k.roles) place) ∙ there)

    count : one ≡ one_if (p role)
    count = counted ∙ ap one_if told

    go : (b : Bool) → p role ≡ b → new ≡ count_by p (take (g + 1) k.roles)
    go true e = omega (arith, count_by_more_yes p k.roles g role h (ap p here ∙ e), before, more, count, ap one_if e)
    go false e = omega (arith, count_by_more_no p k.roles g role h (ap p here ∙ e), before, more, count, ap one_if e)

pub part_more : (k : PlainCert) (x net p : ℕ) (old new : List ℕ) → net ≡ k.original_inputs + x → x < length k.part → part_of k net ≡ Some p → old ≡ take x k.part → new ≡ old ++ p ∷ [] → new ≡ take (x + 1) k.part
part_more k x net p old new at h there before more =
    let place : net - k.original_inputs ≡ x = omega arith in
    let here : get_or k.part x 0 ≡ p = get_or_from_slice_get k.part x p 0 (sym (slot_at k.original_inputs k.part net (omega arith) ∙ ap (slice_get k.part) place) ∙ there) in
    more ∙ (ap (λ (xs : List ℕ). xs ++ p ∷ []) before ∙ sym (take_more k.part x 0 h ∙ ap (λ (y : ℕ). take x k.part ++ y ∷ []) here))
