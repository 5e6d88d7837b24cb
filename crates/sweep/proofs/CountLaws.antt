-- Nets of a partition, counted block by block.
use Rattle.std.proofs.Common.{◌≡◌, ◌≢◌, ℕ, zero, suc, ◌+◌, ◌-◌, ◌<◌, ◌≤◌, ◌⊎◌, inl, inr, Bool, true, false, cond, eqb, ◌&&◌, List, [], ◌∷◌, ◌++◌, length, take, get_or, Option, Some, refl, sym, ap, ◌∙◌, arith, All}
use Rattle.std.specs.Prelude.{◌==◌, count_by, slice_index, slice_set, replicate}
use Rattle.std.specs.List.{flat_map, range_with_len}
use Rattle.std.proofs.lemmas.Bool.{cases_eq, eq-eqb, ne_eqb}
use Rattle.std.proofs.lemmas.List.{get_or-set_same, get_or-set_other, get_or-replicate, length-set, length-replicate}
use Rattle.std.proofs.lemmas.List.Concat.{flat_map-append}
use Rattle.std.proofs.lemmas.List.Elements.{All-filter}
use Rattle.std.proofs.lemmas.List.FromFn.{get_or-range_with_len, length-range_with_len}
use Rattle.std.proofs.lemmas.List.Sums.{sum_by-append, sum_by_more, count_by-le-length}
use Rattle.tmr_base.specs.declared.copies.CopyNo.{CopyNo}
use Rattle.tmr_base.specs.declared.copies.CopyNo.TheVariants.{First, Second, Third}
use Rattle.tmr_base.specs.Copies.{copy_number}
use Rattle.flat_net.specs.Net.{Net, net_count}
use Rattle.certificate.specs.declared.role.Role.{Role}
use Rattle.certificate.specs.declared.role.Role.TheVariants.{Copy}
use Rattle.certificate.specs.Cert.{PlainCert, part_of}
use Rattle.partitioner.specs.Below.{one_if}
use Rattle.triplicate.specs.Blocks.{threefold, copies_of, voters_for, block, hardened_roles}
use Rattle.triplicate.specs.Voting.{needs_voter, voting_parts}
use Rattle.triplicate.specs.declared.planning.Plan.{Plan}
use Rattle.triplicate.specs.Planned.{plan_votes, cert_in}
use Rattle.triplicate.specs.Numbers.{HasFewNets, block_start}
use Rattle.triplicate.specs.Construction.{hardened_cert}
use Rattle.triplicate.specs.Labels.{labeling}
use Rattle.triplicate.proofs.Numbering.{copies_of_node, copies_of_input}
use Rattle.triplicate.proofs.Places.{start_more, start_few}
use Rattle.triplicate.proofs.Tripled.{part_at_node}
use Rattle.exposure.specs.Counts.{is_same_part, is_of, copy_count}
use Rattle.sweep.specs.Private.Counting.{count_so_far, AreSoFar, AreCounts}

-- the numbers from s on, one more
range_more : (s n : ℕ) → range_with_len s (suc n) ≡ range_with_len s n ++ (s + n) ∷ []
range_more s zero = let e : s ≡ s + 0 = omega arith in ap (λ (x : ℕ). x ∷ []) e
range_more s (suc n) =
    let e : s + 1 + n ≡ s + suc n = omega arith in
    ap (λ (xs : List ℕ). s ∷ xs) (range_more (s + 1) n ∙ ap (λ (x : ℕ). range_with_len (s + 1) n ++ x ∷ []) e)

numbers_more : (x : ℕ) → range_with_len 0 (suc x) ≡ range_with_len 0 x ++ x ∷ []
numbers_more x = let e : 0 + x ≡ x = omega arith in range_more 0 x ∙ ap (λ (z : ℕ). range_with_len 0 x ++ z ∷ []) e

-- ---- a number more

-- the number of partition q is one greater
pub one_more_at : (old new : List ℕ) (q : ℕ) → q < length old → new ≡ slice_set old q (slice_index old q + 1) → (p : ℕ) → p < length old → slice_index new p ≡ slice_index old p + one_if (eqb q p)
one_more_at old new q within set p l = go (cases_eq p q)
  where
    go : (p ≡ q) ⊎ (p ≢ q) → slice_index new p ≡ slice_index old p + one_if (eqb q p)
    go (inl same) =
        let here : slice_index new q ≡ slice_index old q + 1 = ap (λ (xs : List ℕ). slice_index xs q) set ∙ get_or-set_same old q (slice_index old q + 1) 0 within in
        let one : one_if (eqb q p) ≡ 1 = ap one_if (eq-eqb q p (sym same)) in
        omega (arith, here, one, ap (slice_index new) same, ap (slice_index old) same)
    go (inr apart) =
        let none : one_if (eqb q p) ≡ 0 = ap one_if (ne_eqb q p (λ e. apart (sym e))) in
        omega (arith, none, ap (λ (xs : List ℕ). slice_index xs p) set, get_or-set_other old q p (slice_index old q + 1) 0 apart)

-- ---- a list of partitions

-- the first i of them are counted
pub record EachCounted (old now parts : List ℕ) (i : ℕ) : Type 0 where
  pub long : length now ≡ length old
  pub each : (p : ℕ) → p < length old → slice_index now p ≡ slice_index old p + count_by (λ q. q == p) (take i parts)

pub none_counted : (old parts : List ℕ) → EachCounted old old parts 0
none_counted old parts = record { long = refl; each = λ p l. omega arith }

pub part_counted : (old now new parts : List ℕ) (i q : ℕ) → EachCounted old now parts i → i < length parts → get_or parts i 0 ≡ q → q < length old → new ≡ slice_set now q (slice_index now q + 1) → EachCounted old new parts (i + 1)
part_counted old now new parts i q s l at within set = record {
  long = ap length set ∙ (length-set now q (slice_index now q + 1) ∙ s.long);
  each = λ p h.
      let more = sum_by_more (λ r. cond (eqb r p) 1 0) parts i 0 l in
      let here : one_if (eqb (get_or parts i 0) p) ≡ one_if (eqb q p) = ap (λ (r : ℕ). one_if (eqb r p)) at in
      omega (arith, s.each p h, one_more_at now new q (omega (arith, within, s.long)) set p (omega (arith, h, s.long)), more, here);
}

pub few_counted : (old now parts : List ℕ) (i q : ℕ) → EachCounted old now parts i → i < length parts → q < length old → slice_index old q + length parts < 4294967296 → slice_index now q + 1 < 4294967296
few_counted old now parts i q s l h few = omega (arith, s.each q h, count_by-le-length (λ r. r == q) (take i parts), few, short parts i l)
  where
    short : (xs : List ℕ) (j : ℕ) → j < length xs → length (take j xs) < length xs
    short [] j l = absurd (omega arith)
    short (x ∷ xs) zero l = omega arith
    short (x ∷ xs) (suc j) l = omega (arith, short xs j (omega (arith, l)))

-- ---- what stands for a net

three_ones : (b : Bool) (c : CopyNo) → (0 + one_if (b && eqb 0 (copy_number c))) + one_if (b && eqb 1 (copy_number c)) + one_if (b && eqb 2 (copy_number c)) ≡ one_if b
three_ones true First = refl
three_ones true Second = refl
three_ones true Third = refl
three_ones false c = refl

module _ (k : PlainCert) (p : ℕ) (c : CopyNo) where
  -- one of the three copies of a node
  copies_counted : (x : ℕ) → count_by (is_of k p c) (threefold (λ d. Copy (record { 0 = x }) d)) ≡ one_if (is_same_part (part_of k x) p)
  copies_counted x = three_ones (is_same_part (part_of k x) p) c

  -- one of the three voters for a partition
  pub voters_counted : (x : ℕ) (qs : List ℕ) → count_by (is_of k p c) (flat_map (voters_for x) qs) ≡ count_by (λ q. q == p) qs
  voters_counted x [] = refl
  voters_counted x (q ∷ qs) =
      let here : count_by (is_of k p c) (voters_for x q) ≡ one_if (eqb q p) = three_ones (eqb q p) c in
      let split = sum_by-append (λ r. cond (is_of k p c r) 1 0) (voters_for x q) (flat_map (voters_for x) qs) in
      let own = sum_by-append (λ r. cond (eqb r p) 1 0) (q ∷ []) qs in
      omega (arith, split, here, voters_counted x qs, own)

  -- those of a node whose partition is q, and of an input
  pub node_counted : (n : Net) (x q : ℕ) → length n.inputs ≤ x → part_of k x ≡ Some q → count_by (is_of k p c) (copies_of n x) ≡ one_if (eqb q p)
  node_counted n x q low at =
      ap (count_by (is_of k p c)) (copies_of_node n x low) ∙ (copies_counted x ∙ ap (λ (o : Option ℕ). one_if (is_same_part o p)) at)

  pub input_counted : (n : Net) (x : ℕ) → x < length n.inputs → count_by (is_of k p c) (copies_of n x) ≡ 0
  input_counted n x l = ap (count_by (is_of k p c)) (copies_of_input n x l)

-- ---- net by net

module _ (n : Net) (plan : Plan) where
  voted : ℕ → ℕ → Bool
  voted = plan_votes n plan

  -- what stands for one net more
  pub so_far_more : (p x : ℕ) (c : CopyNo) → count_so_far n plan p c (x + 1)
      ≡ count_so_far n plan p c x + (count_by (is_of (cert_in n plan) p c) (copies_of n x) + count_by (λ q. q == p) (voting_parts n plan.parts (plan_votes n plan) x))
  so_far_more p x c =
      let blocks : flat_map (block n plan.parts (plan_votes n plan)) (range_with_len 0 (x + 1)) ≡ flat_map (block n plan.parts (plan_votes n plan)) (range_with_len 0 x) ++ (block n plan.parts (plan_votes n plan) x ++ []) =
      (let e : x + 1 ≡ suc x = omega arith in ap (λ (m : ℕ). flat_map (block n plan.parts (plan_votes n plan)) (range_with_len 0 m)) e)
      ∙ (ap (flat_map (block n plan.parts (plan_votes n plan))) (numbers_more x) ∙ flat_map-append (block n plan.parts (plan_votes n plan)) (range_with_len 0 x) (x ∷ [])) in
      let test : Role → ℕ = λ r. cond (is_of (cert_in n plan) p c r) 1 0 in
      let all = ap (count_by (is_of (cert_in n plan) p c)) blocks in
      let one = sum_by-append test (flat_map (block n plan.parts (plan_votes n plan)) (range_with_len 0 x)) (block n plan.parts (plan_votes n plan) x ++ []) in
      let two = sum_by-append test (block n plan.parts (plan_votes n plan) x) [] in
      let three = sum_by-append test (copies_of n x) (flat_map (voters_for x) (voting_parts n plan.parts (plan_votes n plan) x)) in
      omega (arith, all, one, two, three, voters_counted (cert_in n plan) p c x (voting_parts n plan.parts (plan_votes n plan) x))

  -- the copies of a node are counted at its partition
  pub copies_more : (x q : ℕ) (old : List ℕ) → length plan.parts.of ≡ length n.nodes → length n.inputs ≤ x → x < net_count n → q ≡ slice_index plan.parts.of (x - length n.inputs) → q < length old
      → (p : ℕ) (c : CopyNo) → p < length old → slice_index (slice_set old q (slice_index old q + 1)) p ≡ slice_index old p + count_by (is_of (cert_in n plan) p c) (copies_of n x)
  copies_more x q old long low high at within p c l =
      let part : part_of (cert_in n plan) x ≡ Some q = part_at_node n plan.parts (plan_votes n plan) (labeling plan.inputs plan.extra.table) long x low high ∙ ap Some (sym at) in
      omega (arith, one_more_at old (slice_set old q (slice_index old q + 1)) q within refl p l, node_counted (cert_in n plan) p c n x q low part)

  pub none_so_far : (size : ℕ) (counts : List ℕ) → size ≡ plan.parts.count → counts ≡ replicate size 0 → AreSoFar n plan 0 counts
  none_so_far size counts same e = record {
    long = ap length e ∙ (length-replicate size 0 ∙ same);
    each = λ p c l. ap (λ (xs : List ℕ). slice_index xs p) e ∙ get_or-replicate size p 0 0 (omega (arith, same, l));
  }

  -- there is room for what stands for one net more
  pub room : (x p : ℕ) (counts : List ℕ) → HasFewNets n plan.parts (plan_votes n plan) → x < net_count n → AreSoFar n plan x counts → p < plan.parts.count
      → slice_index counts p + (length (copies_of n x) + length (voting_parts n plan.parts (plan_votes n plan) x)) < 4294967296
  unfolding block_start
  room x p counts few h s l =
      omega (
        arith,
        s.each p First l,
        count_by-le-length (is_of (cert_in n plan) p First) (flat_map (block n plan.parts (plan_votes n plan)) (range_with_len 0 x)),
        few,
        start_few n plan.parts (plan_votes n plan) (x + 1) (omega (arith, h)),
        start_more n plan.parts (plan_votes n plan) x,
      )

  pub net_counted : (x : ℕ) (old now new row : List ℕ) → AreSoFar n plan x old → length now ≡ length old → length new ≡ length now → row ≡ voting_parts n plan.parts (plan_votes n plan) x
      → ((p : ℕ) (c : CopyNo) → p < length old → slice_index now p ≡ slice_index old p + count_by (is_of (cert_in n plan) p c) (copies_of n x))
      → ((p : ℕ) → p < length now → slice_index new p ≡ slice_index now p + count_by (λ q. q == p) row) → AreSoFar n plan (x + 1) new
  net_counted x old now new row s long still is first second = record {
    long = still ∙ (long ∙ s.long);
    each = λ p c l.
        omega (arith, s.each p c l, first p c (omega (arith, s.long, l)), second p (omega (arith, long, s.long, l)), so_far_more p x c, ap (count_by (λ q. q == p)) is);
  }

  -- all numbers of the partitions are in range
  pub row_within : (x m : ℕ) → m ≡ plan.parts.count → All (λ p. p < m) (voting_parts n plan.parts (plan_votes n plan) x)
  row_within x m e = All-filter (needs_voter n plan.parts (plan_votes n plan) x) (λ p. p < m) (range_with_len 0 plan.parts.count) (below plan.parts.count (omega (arith, e)))
    where
      below : (r : ℕ) → r ≤ m → All (λ p. p < m) (range_with_len 0 r)
      below r h = λ i d l.
          let short : i < r = omega (arith, l, length-range_with_len 0 r) in
          let at = get_or-range_with_len 0 r i d short in
          omega (arith, at, short, h)

  -- behind the copies there is still room for the voters
  pub room_behind : (x p : ℕ) (old now row : List ℕ) → HasFewNets n plan.parts (plan_votes n plan) → x < net_count n → AreSoFar n plan x old → p < plan.parts.count → row ≡ voting_parts n plan.parts (plan_votes n plan) x
      → slice_index now p ≡ slice_index old p + count_by (is_of (cert_in n plan) p First) (copies_of n x) → slice_index now p + length row < 4294967296
  room_behind x p old now row few h s l is more =
      omega (arith, more, room x p old few h s l, count_by-le-length (is_of (cert_in n plan) p First) (copies_of n x), ap length is)

  -- in the end all nodes of the hardened design are counted
  roles_counted : (p : ℕ) (c : CopyNo) → count_so_far n plan p c (net_count n) ≡ copy_count (cert_in n plan) p c
  unfolding hardened_cert hardened_roles
  roles_counted p c = refl

  pub all_counted : (count : ℕ) (counts : List ℕ) → count ≡ net_count n → AreSoFar n plan count counts → AreCounts n plan counts
  all_counted count counts all s = record {
    long = s.long;
    each = λ p c l. s.each p c l ∙ (ap (λ (m : ℕ). count_so_far n plan p c m) all ∙ roles_counted p c);
  }
