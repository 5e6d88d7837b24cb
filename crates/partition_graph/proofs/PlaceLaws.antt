-- Which partitions are drawn, told by counts.
use Rattle.std.proofs.Common.{◌≡◌, ◌≢◌, ℕ, suc, ◌+◌, ◌-◌, ◌<◌, ◌≤◌, ◌⊎◌, inl, inr, Bool, true, false, List, [], ◌∷◌, ◌++◌, length, take, get_or, slice_get, slice_index, slice_set, Some, refl, sym, ◌∙◌, ap, arith}
use Rattle.std.specs.Prelude.{◌==◌, nat_lt, replicate, All, if◌then◌else◌}
use Rattle.std.proofs.lemmas.Bool.{cases_eq, eq-eqb, ne_eqb, le-ltb}
use Rattle.std.proofs.lemmas.List.{get_or-set_same, get_or-set_other, get_or-replicate, length-set, length-replicate, length-append, take_more, get_or_append_left, get_or_push}
use Rattle.std.proofs.lemmas.Option.{get_or_from_slice_get}
use Rattle.flat_net.proofs.Slots.{slot_at}
use Rattle.certificate.specs.Cert.{PlainCert, part_of}
use Rattle.partitioner.specs.Below.{count_below, one_if}
use Rattle.partitioner.proofs.BelowLaws.{count_none, count_same}
use Rattle.partition_graph.specs.Places.{nodes_in, count_before, is_drawn, place_of}
use Rattle.partition_graph.specs.Private.Counting.{AreNodeCounts}
use Rattle.partition_graph.proofs.CountLaws.{count_more, more_above, none_pass}

-- a partition is drawn where its place is its own number
pub drawn_is : (k : PlainCert) (p : ℕ) → p < length k.depth → (place_of k p == p) ≡ is_drawn k p
unfolding place_of
drawn_is k p h = go (nat_lt (count_before k p) 400)
  where
    go : (b : Bool) → ((if b then p else length k.depth) == p) ≡ b
    go true = eq-eqb p p refl
    go false = ne_eqb (length k.depth) p (λ e. absurd (omega arith))

pub part_more : (k : PlainCert) (x net p : ℕ) (old new : List ℕ) → net ≡ k.original_inputs + x → x < length k.part → part_of k net ≡ Some p → old ≡ take x k.part → new ≡ old ++ p ∷ [] → new ≡ take (x + 1) k.part
part_more k x net p old new at h there before more =
    let place : net - k.original_inputs ≡ x = omega arith in
    let here : get_or k.part x 0 ≡ p = get_or_from_slice_get k.part x p 0 (sym (slot_at k.original_inputs k.part net (omega arith) ∙ ap (slice_get k.part) place) ∙ there) in
    more ∙ (ap (λ (xs : List ℕ). xs ++ p ∷ []) before ∙ sym (take_more k.part x 0 h ∙ ap (λ (y : ℕ). take x k.part ++ y ∷ []) here))

pub part_here : (k : PlainCert) (x net p : ℕ) → net ≡ k.original_inputs + x → part_of k net ≡ Some p → slice_index k.part x ≡ p
part_here k x net p at there =
    let place : net - k.original_inputs ≡ x = omega arith in
    get_or_from_slice_get k.part x p 0 (sym (slot_at k.original_inputs k.part net (omega arith) ∙ ap (slice_get k.part) place) ∙ there)

pub node_counts_are : (k : PlainCert) (nodes : List ℕ) → length nodes ≡ length k.depth → ((p : ℕ) → p < length k.depth → slice_index nodes p ≡ count_below (length k.part) (λ x. slice_index k.part x == p)) → AreNodeCounts k nodes
unfolding nodes_in
node_counts_are k nodes long each = record { long = long; each = each }

-- ---- how many numbers are above each value

-- the counts for the values from `left` on
pub record AreAbove (numbers exactly : List ℕ) (left sum : ℕ) (above : List ℕ) : Type 0 where
  pub long : length above ≡ length exactly
  pub within : left < length exactly
  pub sum_is : sum ≡ count_below (length numbers) (λ q. nat_lt left (slice_index numbers q))
  pub above_are : (m : ℕ) → left ≤ m → m < length exactly → slice_index above m ≡ count_below (length numbers) (λ q. nat_lt m (slice_index numbers q))

pub none_above : (numbers exactly : List ℕ) (count last : ℕ) (above : List ℕ) → All (λ m. m < length exactly) numbers → 0 < length exactly → count ≡ length exactly → last ≡ length exactly - 1 → above ≡ replicate count 0 → AreAbove numbers exactly last 0 above
none_above numbers exactly count last above below some same is e = record {
  long = ap length e ∙ (length-replicate count 0 ∙ same);
  within = omega (arith, some, is);
  sum_is = sym (zero last (omega (arith, some, is)));
  above_are = λ m h l. ap (λ (xs : List ℕ). slice_index xs m) e ∙ (get_or-replicate count m 0 0 (omega (arith, l, same)) ∙ sym (zero m (omega (arith, h, l, is))));
}
  where
    zero : (m : ℕ) → m + 1 ≡ length exactly → count_below (length numbers) (λ q. nat_lt m (slice_index numbers q)) ≡ 0
    zero m e = none_pass (length numbers) (λ q. nat_lt m (slice_index numbers q)) (λ q h. let f : slice_index numbers q < length exactly = below q 0 h in le-ltb m (slice_index numbers q) (omega (arith, e, f)))

pub next_above : (numbers exactly : List ℕ) (left sum : ℕ) (above new : List ℕ) → ((m : ℕ) → m < length exactly → slice_index exactly m ≡ count_below (length numbers) (λ q. slice_index numbers q == m)) → 0 < left → AreAbove numbers exactly left sum above
    → new ≡ slice_set above (left - 1) (sum + slice_index exactly left) → AreAbove numbers exactly (left - 1) (sum + slice_index exactly left) new
next_above numbers exactly left sum above new exact some are set = record {
  long = ap length set ∙ (length-set above (left - 1) (sum + slice_index exactly left) ∙ are.long);
  within = omega (arith, are.within);
  sum_is = total;
  above_are = λ m h l. go m h l (cases_eq m (left - 1));
}
  where
    next : suc (left - 1) ≡ left
    next = omega (arith, some)

    total : sum + slice_index exactly left ≡ count_below (length numbers) (λ q. nat_lt (left - 1) (slice_index numbers q))
    total =
        let split = more_above (length numbers) (left - 1) (slice_index numbers) in
        let own : count_below (length numbers) (λ q. slice_index numbers q == suc (left - 1)) ≡ slice_index exactly left = ap (λ (v : ℕ). count_below (length numbers) (λ q. slice_index numbers q == v)) next ∙ sym (exact left are.within) in
        let rest : count_below (length numbers) (λ q. nat_lt (suc (left - 1)) (slice_index numbers q)) ≡ sum = ap (λ (v : ℕ). count_below (length numbers) (λ q. nat_lt v (slice_index numbers q))) next ∙ sym are.sum_is in
        omega (arith, split, own, rest)

    go : (m : ℕ) → left - 1 ≤ m → m < length exactly → (m ≡ left - 1) ⊎ (m ≢ left - 1) → slice_index new m ≡ count_below (length numbers) (λ q. nat_lt m (slice_index numbers q))
    go m h l (inl e) =
        ap (slice_index new) e ∙ (ap (λ (xs : List ℕ). slice_index xs (left - 1)) set ∙ (get_or-set_same above (left - 1) (sum + slice_index exactly left) 0 (omega (arith, are.long, are.within))
        ∙ (total ∙ ap (λ (v : ℕ). count_below (length numbers) (λ q. nat_lt v (slice_index numbers q))) (sym e))))
    go m h l (inr ne) =
        ap (λ (xs : List ℕ). slice_index xs m) set ∙ (get_or-set_other above (left - 1) m (sum + slice_index exactly left) 0 ne ∙ are.above_are m (omega (arith, h, ne)) l)

-- ---- the places of the first partitions

pub record ArePlacedSoFar (k : PlainCert) (nodes exactly : List ℕ) (p : ℕ) (seen places : List ℕ) : Type 0 where
  pub seen_long : length seen ≡ length exactly
  pub seen_are : (m : ℕ) → m < length exactly → slice_index seen m ≡ count_below p (λ q. slice_index nodes q == m)
  pub long : length places ≡ p
  pub places_are : (q : ℕ) → q < p → slice_index places q ≡ place_of k q

pub none_placed : (k : PlainCert) (nodes exactly : List ℕ) (count : ℕ) (seen places : List ℕ) → count ≡ length exactly → seen ≡ replicate count 0 → places ≡ [] → ArePlacedSoFar k nodes exactly 0 seen places
none_placed k nodes exactly count seen places same e none = record {
  seen_long = ap length e ∙ (length-replicate count 0 ∙ same);
  seen_are = λ m h. ap (λ (xs : List ℕ). slice_index xs m) e ∙ (get_or-replicate count m 0 0 (omega (arith, h, same)) ∙ sym (count_none (λ q. slice_index nodes q == m)));
  long = ap length none;
  places_are = λ q h. absurd (omega arith);
}

before_is : (k : PlainCert) (nodes : List ℕ) (p : ℕ) → AreNodeCounts k nodes → p < length nodes → count_before k p ≡ count_below (length nodes) (λ q. nat_lt (slice_index nodes p) (slice_index nodes q)) + count_below p (λ q. slice_index nodes q == slice_index nodes p)
unfolding count_before
before_is k nodes p are h =
    let here : nodes_in k p ≡ slice_index nodes p = sym (are.each p (omega (arith, h, are.long))) in
    let many : count_below (length k.depth) (λ q. nat_lt (nodes_in k p) (nodes_in k q)) ≡ count_below (length nodes) (λ q. nat_lt (slice_index nodes p) (slice_index nodes q)) =
    ap (λ (c : ℕ). count_below c (λ q. nat_lt (nodes_in k p) (nodes_in k q))) (sym are.long)
    ∙ count_same (length nodes) (λ q. nat_lt (nodes_in k p) (nodes_in k q)) (λ q. nat_lt (slice_index nodes p) (slice_index nodes q))
    (λ q l. ap (λ (v : ℕ). nat_lt v (nodes_in k q)) here ∙ ap (nat_lt (slice_index nodes p)) (sym (are.each q (omega (arith, l, are.long))))) in
    let as_many : count_below p (λ q. nodes_in k q == nodes_in k p) ≡ count_below p (λ q. slice_index nodes q == slice_index nodes p) =
    count_same p (λ q. nodes_in k q == nodes_in k p) (λ q. slice_index nodes q == slice_index nodes p)
    (λ q l. ap (λ (v : ℕ). nodes_in k q == v) here ∙ ap (λ (v : ℕ). v == slice_index nodes p) (sym (are.each q (omega (arith, l, h, are.long))))) in
    omega (arith, many, as_many)

place_is : (k : PlainCert) (p before rest place : ℕ) → before ≡ count_before k p → rest ≡ length k.depth → place ≡ (if nat_lt before 400 then p else rest) → place ≡ place_of k p
unfolding place_of
place_is k p before rest place same e is = is ∙ (ap (λ (b : ℕ). if nat_lt b 400 then p else rest) same ∙ ap (λ (r : ℕ). if nat_lt (count_before k p) 400 then p else r) e)

pub one_placed : (k : PlainCert) (nodes exactly : List ℕ) (p above place : ℕ) (seen places next more : List ℕ) → AreNodeCounts k nodes → p < length nodes → slice_index nodes p < length exactly
    → above ≡ count_below (length nodes) (λ q. nat_lt (slice_index nodes p) (slice_index nodes q)) → ArePlacedSoFar k nodes exactly p seen places
    → place ≡ (if nat_lt (above + slice_index seen (slice_index nodes p)) 400 then p else length nodes) → more ≡ places ++ place ∷ []
    → next ≡ slice_set seen (slice_index nodes p) (slice_index seen (slice_index nodes p) + 1) → ArePlacedSoFar k nodes exactly (p + 1) next more
one_placed k nodes exactly p above place seen places next more counts h below told are is pushed set = record {
  seen_long = ap length set ∙ (length-set seen (slice_index nodes p) (slice_index seen (slice_index nodes p) + 1) ∙ are.seen_long);
  seen_are = λ m l. go m l (cases_eq m (slice_index nodes p));
  long = let e = ap length pushed in omega (arith, e, length-append places (place ∷ []), are.long);
  places_are = λ q l. own q l (cases_eq q p);
}
  where
    go : (m : ℕ) → m < length exactly → (m ≡ slice_index nodes p) ⊎ (m ≢ slice_index nodes p) → slice_index next m ≡ count_below (p + 1) (λ q. slice_index nodes q == m)
    go m l (inl e) =
        let one : one_if (slice_index nodes p == m) ≡ 1 = ap one_if (eq-eqb (slice_index nodes p) m (sym e)) in
        let there : slice_index next m ≡ slice_index seen (slice_index nodes p) + 1 = ap (slice_index next) e ∙ (ap (λ (xs : List ℕ). slice_index xs (slice_index nodes p)) set ∙ get_or-set_same seen (slice_index nodes p) (slice_index seen (slice_index nodes p) + 1) 0 (omega (arith, below, are.seen_long))) in
        let was : slice_index seen (slice_index nodes p) ≡ slice_index seen m = ap (slice_index seen) (sym e) in
        omega (arith, there, was, are.seen_are m l, count_more p (λ q. slice_index nodes q == m), one)
    go m l (inr ne) =
        let none : one_if (slice_index nodes p == m) ≡ 0 = ap one_if (ne_eqb (slice_index nodes p) m (λ e. ne (sym e))) in
        let there : slice_index next m ≡ slice_index seen m = ap (λ (xs : List ℕ). slice_index xs m) set ∙ get_or-set_other seen (slice_index nodes p) m (slice_index seen (slice_index nodes p) + 1) 0 ne in
        omega (arith, there, are.seen_are m l, count_more p (λ q. slice_index nodes q == m), none)

    before : above + slice_index seen (slice_index nodes p) ≡ count_before k p
    before = let e = before_is k nodes p counts h in omega (arith, e, told, are.seen_are (slice_index nodes p) below)

    own : (q : ℕ) → q < p + 1 → (q ≡ p) ⊎ (q ≢ p) → slice_index more q ≡ place_of k q
    own q l (inl e) =
        ap (λ (xs : List ℕ). slice_index xs q) pushed ∙ (ap (slice_index (places ++ place ∷ [])) (e ∙ sym are.long) ∙ (last places place
        ∙ (place_is k p (above + slice_index seen (slice_index nodes p)) (length nodes) place before counts.long is ∙ ap (place_of k) (sym e))))
      where
        last : (xs : List ℕ) (x : ℕ) → slice_index (xs ++ x ∷ []) (length xs) ≡ x
        last xs x = get_or_push xs x 0 (length xs) refl
    own q l (inr ne) = ap (λ (xs : List ℕ). slice_index xs q) pushed ∙ (front places place q (omega (arith, l, ne, are.long)) ∙ are.places_are q (omega (arith, l, ne)))
      where
        front : (xs : List ℕ) (x q : ℕ) → q < length xs → slice_index (xs ++ x ∷ []) q ≡ slice_index xs q
        front xs x q h = get_or_append_left xs (x ∷ []) 0 q h
