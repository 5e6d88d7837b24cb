-- Pairs of strikes that are too near, counted.
use Rattle.std.proofs.Common.{◌≡◌, ℕ, zero, suc, ◌+◌, ◌*◌, ◌-◌, ◌<◌, ◌≤◌, ◌⊎◌, inl, inr, Bool, true, false, cond, length, Option, Some, None, refl, sym, ap, ◌∙◌, arith}
use Rattle.std.specs.Prelude.{◌==◌, sum_by}
use Rattle.std.specs.List.{range_with_len}
use Rattle.std.proofs.Math.Nat.{mul-suc, mul-zero}
use Rattle.std.proofs.lemmas.Bool.{cases_lt, eqb-true, eq-eqb}
use Rattle.std.proofs.lemmas.Option.{get_or_from_slice_get}
use Rattle.tmr_base.specs.declared.copies.CopyNo.{CopyNo}
use Rattle.tmr_base.specs.declared.copies.CopyNo.TheVariants.{First, Second, Third}
use Rattle.tmr_base.specs.Copies.{copy_number}
use Rattle.flat_net.proofs.Slots.{slot_at, slot_within, slot_there}
use Rattle.certificate.specs.declared.role.Role.{Role}
use Rattle.certificate.specs.declared.role.Role.TheVariants.{Copy, Voter}
use Rattle.certificate.specs.Cert.{PlainCert, IsCert, role_of, part_depth}
use Rattle.certificate.specs.Schedules.{RoleIsIn, IsIn}
use Rattle.certificate.proofs.Domains.{one_domain}
use Rattle.exposure.specs.Counts.{copy_count, near_of, near_in, near_total}
use Rattle.exposure.specs.Nets.{HasNets}
use Rattle.exposure.specs.NearPairs.{AreSoMany, Strikes, MayBeStruck, AreNear}
use Rattle.exposure.proofs.NetLaws.{nodes_counted, inputs_counted}
use Rattle.exposure.proofs.SoMany.{Counts, Within, so_many, count_same, count_either, count_as, count_both, count_range, count_over, count_rising}

-- ---- cycles

-- the cycles of two strikes of which the earlier is in cycle 0, at most d apart
abbrev AreClose : ℕ → ℕ × ℕ → Type 0
AreClose d t = ((t.0 ≡ 0) ⊎ (t.1 ≡ 0)) × (t.1 ≤ t.0 + d) × (t.0 ≤ t.1 + d)

-- the first is in cycle 0
abbrev IsEarly : ℕ → ℕ × ℕ → Type 0
IsEarly d t = (t.0 ≡ 0) × ((0 ≤ t.1) × (t.1 < 0 + (d + 1)))

-- the second alone is
abbrev IsLate : ℕ → ℕ × ℕ → Type 0
IsLate d t = ((1 ≤ t.0) × (t.0 < 1 + d)) × (t.1 ≡ 0)

one_zero : Counts (λ (x : ℕ). x ≡ 0) 1
one_zero = count_same (λ (x : ℕ). (0 ≤ x) × (x < 0 + 1)) (λ (x : ℕ). x ≡ 0) 1 1 refl (λ x h. omega (arith, h.1)) (λ x e. (omega (arith, e), omega (arith, e))) (count_range 0 1)

early_or_late : (d : ℕ) (t : ℕ × ℕ) → IsEarly d t → IsLate d t → ⊥
early_or_late d t one other = omega (arith, one.0, other.0.0)

close_from : (d : ℕ) (t : ℕ × ℕ) → IsEarly d t ⊎ IsLate d t → AreClose d t
close_from d t (inl h) = (inl h.0, omega (arith, h.0, h.1.1), omega (arith, h.0))
close_from d t (inr h) = (inr h.1, omega (arith, h.1), omega (arith, h.0.1))

close_at : (d : ℕ) (t : ℕ × ℕ) → (t.0 ≡ 0) ⊎ (t.1 ≡ 0) → t.1 ≤ t.0 + d → t.0 ≤ t.1 + d → (0 < t.0) ⊎ (t.0 ≤ 0) → IsEarly d t ⊎ IsLate d t
close_at d t (inl e) near far (inl high) = absurd (omega (arith, e, high))
close_at d t (inr e) near far (inl high) = inr ((omega (arith, high), omega (arith, far, e)), e)
close_at d t begins near far (inr low) = inl (omega (arith, low), (omega arith, omega (arith, low, near)))

count_close : (d : ℕ) → Counts (AreClose d) (2 * d + 1)
count_close d = count_same (λ (t : ℕ × ℕ). IsEarly d t ⊎ IsLate d t) (AreClose d) (1 * (d + 1) + d * 1) (2 * d + 1) (omega arith) (close_from d) (λ t h. close_at d t h.0 h.1 h.2 (cases_lt 0 t.0))
    (count_either (IsEarly d) (IsLate d) (1 * (d + 1)) (d * 1) (early_or_late d)
    (count_both (λ (x : ℕ). x ≡ 0) (λ (x : ℕ). (0 ≤ x) × (x < 0 + (d + 1))) 1 (d + 1) one_zero (count_range 0 (d + 1)))
    (count_both (λ (x : ℕ). (1 ≤ x) × (x < 1 + d)) (λ (x : ℕ). x ≡ 0) d 1 (count_range 1 d) one_zero))

-- ---- where a net belongs

same_some : (p q : ℕ) → Some p ≡ Some q → p ≡ q
same_some p q e = cc

module _ (k : PlainCert) (is : IsCert k) (h p : ℕ) (c : CopyNo) where
  node_of : (o : Option Role) → role_of k h ≡ o → RoleIsIn k o h (Some p) c → (p < length k.depth) × (k.hardened_inputs ≤ h)
  node_of None e (i, copy, none) = absurd (cc)
  node_of (Some (Copy x d)) e (part, copy) =
      let within = slot_within k.original_inputs k.part x.0 p part in
      let got = sym (slot_at k.original_inputs k.part x.0 within.0) ∙ part in
      let here = get_or_from_slice_get k.part (x.0 - k.original_inputs) p p got in
      let low = is.parts_in_range (x.0 - k.original_inputs) p (omega (arith, within.0, within.1)) in
      let net = slot_within k.hardened_inputs k.roles h (Copy x d) e in
      (omega (arith, here, low), net.0)
  node_of (Some (Voter x q d)) e (part, copy) =
      let range = is.roles_in_range h (Voter x q d) e in
      let net = slot_within k.hardened_inputs k.roles h (Voter x q d) e in
      (omega (arith, range.2, same_some q.0 p part), net.0)

  is_node : IsIn k h (Some p) c → (p < length k.depth) × (k.hardened_inputs ≤ h)
  is_node there = node_of (role_of k h) refl there

module _ (k : PlainCert) (is : IsCert k) (h : ℕ) (c : CopyNo) where
  input_of : (o : Option Role) → role_of k h ≡ o → RoleIsIn k o h None c → h < k.hardened_inputs
  input_of None e (i, copy, none) = copy.1
  input_of (Some (Copy x d)) e (part, copy) =
      let range = is.roles_in_range h (Copy x d) e in
      let (p, there) = slot_there k.original_inputs k.part x.0 range.0 range.1 in
      absurd (let none : None ≡ Some p = sym part ∙ there in cc)
  input_of (Some (Voter x q d)) e (part, copy) = absurd (cc)

  is_input : IsIn k h None c → h < k.hardened_inputs
  is_input there = input_of (role_of k h) refl there

-- ---- pairs of strikes of two copies of a partition

-- the first strikes copy c of the partition, and the second copy d
abbrev Strike : PlainCert → Option ℕ → CopyNo → CopyNo → Strikes → Type 0
Strike k p c d s = (IsIn k s.one p c × IsIn k s.other p d) × AreClose (part_depth k p) (s.one_cycle, s.other_cycle)

abbrev Parts : Type 0
Parts = (ℕ × ℕ) × (ℕ × ℕ)

abbrev joined : Parts → Strikes
joined t = record { one = t.0.0; other = t.0.1; one_cycle = t.1.0; other_cycle = t.1.1 }

abbrev parted : Strikes → Parts
parted s = ((s.one, s.other), (s.one_cycle, s.other_cycle))

count_nets : (k : PlainCert) (p : Option ℕ) (c : CopyNo) (n : ℕ) → HasNets k p c n → Counts (λ (h : ℕ). IsIn k h p c) n
count_nets k p c n has = count_rising (λ (h : ℕ). IsIn k h p c) n has.nets has.once (λ h. (has.exact h).0) (λ h. (has.exact h).1) has.long

count_strike : (k : PlainCert) (p : Option ℕ) (c d : CopyNo) (m n : ℕ) → HasNets k p c m → HasNets k p d n → Counts (Strike k p c d) (m * n * (2 * part_depth k p + 1))
count_strike k p c d m n one other =
    count_as (λ (t : Parts). (IsIn k t.0.0 p c × IsIn k t.0.1 p d) × AreClose (part_depth k p) t.1) (m * n * (2 * part_depth k p + 1)) joined parted (λ t. refl) (λ s. refl)
    (count_both (λ (t : ℕ × ℕ). IsIn k t.0 p c × IsIn k t.1 p d) (AreClose (part_depth k p)) (m * n) (2 * part_depth k p + 1)
    (count_both (λ (h : ℕ). IsIn k h p c) (λ (h : ℕ). IsIn k h p d) m n (count_nets k p c m one) (count_nets k p d n other))
    (count_close (part_depth k p)))

-- ---- all pairs of strikes of a partition

abbrev Strikes3 : PlainCert → Option ℕ → Strikes → Type 0
Strikes3 k p s = (Strike k p First Second s ⊎ Strike k p First Third s) ⊎ Strike k p Second Third s

add_mul : (x y t : ℕ) → (x + y) * t ≡ x * t + y * t
add_mul x y zero = omega (arith, mul-zero (x + y), mul-zero x, mul-zero y)
add_mul x y (suc t) = omega (arith, mul-suc (x + y) t, mul-suc x t, mul-suc y t, add_mul x y t)

sums : (a b c t : ℕ) → (a * b * t + a * c * t) + b * c * t ≡ (a * b + a * c + b * c) * t
sums a b c t = omega (arith, add_mul (a * b + a * c) (b * c) t, add_mul (a * b) (a * c) t)

first_second : First ≡ Second → ⊥
first_second e = cc

second_third : Second ≡ Third → ⊥
second_third e = cc

not_both : (k : PlainCert) (p : Option ℕ) (s : Strikes) → Strike k p First Second s → Strike k p First Third s → ⊥
not_both k p s h g = second_third (one_domain k s.other p p Second Third h.0.1 g.0.1).1

not_last : (k : PlainCert) (p : Option ℕ) (s : Strikes) → Strike k p First Second s ⊎ Strike k p First Third s → Strike k p Second Third s → ⊥
not_last k p s (inl h) g = first_second (one_domain k s.one p p First Second h.0.0 g.0.0).1
not_last k p s (inr h) g = first_second (one_domain k s.one p p First Second h.0.0 g.0.0).1

module _ (k : PlainCert) (p : Option ℕ) (a b c t : ℕ) where
  three_pairs : Counts (Strike k p First Second) (a * b * t) → Counts (Strike k p First Third) (a * c * t) → Counts (Strike k p Second Third) (b * c * t) → Counts (Strikes3 k p) ((a * b + a * c + b * c) * t)
  three_pairs one two three =
      count_same (Strikes3 k p) (Strikes3 k p) (a * b * t + a * c * t + b * c * t) ((a * b + a * c + b * c) * t) (sums a b c t) (λ s h. h) (λ s h. h)
      (count_either (λ (s : Strikes). Strike k p First Second s ⊎ Strike k p First Third s) (Strike k p Second Third) (a * b * t + a * c * t) (b * c * t) (not_last k p)
      (count_either (Strike k p First Second) (Strike k p First Third) (a * b * t) (a * c * t) (not_both k p) one two)
      three)

count_part : (k : PlainCert) (p : Option ℕ) (a b c : ℕ) → HasNets k p First a → HasNets k p Second b → HasNets k p Third c → Counts (Strikes3 k p) (near_of a b c (part_depth k p))
count_part k p a b c one two three =
    three_pairs k p a b c (2 * part_depth k p + 1) (count_strike k p First Second a b one two) (count_strike k p First Third a c one three) (count_strike k p Second Third b c two three)

-- where both strike
place_of : (k : PlainCert) (p : Option ℕ) (s : Strikes) → Strikes3 k p s → (c : CopyNo) × (d : CopyNo) × (copy_number c < copy_number d) × Strike k p c d s
place_of k p s (inl (inl h)) = (First, Second, omega arith, h)
place_of k p s (inl (inr h)) = (First, Third, omega arith, h)
place_of k p s (inr h) = (Second, Third, omega arith, h)

of_place : (k : PlainCert) (p : Option ℕ) (s : Strikes) (c d : CopyNo) → copy_number c < copy_number d → Strike k p c d s → Strikes3 k p s
of_place k p s First First l h = absurd (omega (arith, l))
of_place k p s First Second l h = inl (inl h)
of_place k p s First Third l h = inl (inr h)
of_place k p s Second First l h = absurd (omega (arith, l))
of_place k p s Second Second l h = absurd (omega (arith, l))
of_place k p s Second Third l h = inr h
of_place k p s Third First l h = absurd (omega (arith, l))
of_place k p s Third Second l h = absurd (omega (arith, l))
of_place k p s Third Third l h = absurd (omega (arith, l))

one_part : (k : PlainCert) (p q : Option ℕ) (s : Strikes) → Strikes3 k p s → Strikes3 k q s → p ≡ q
one_part k p q s h g =
    let (c, d, l, one) = place_of k p s h in
    let (e, f, m, other) = place_of k q s g in
    (one_domain k s.one p q c e one.0.0 other.0.0).0

true_or_false : (b : Bool) → b ≡ false → b ≡ true → ⊥
true_or_false b e f = cc

-- ---- all pairs of strikes that are too near

-- strikes of hardened nodes
abbrev OfNodes : PlainCert → Strikes → Type 0
OfNodes k s = Within (λ (p : ℕ). Strikes3 k (Some p)) 0 (length k.depth) s

count_nodes : (k : PlainCert) → Counts (OfNodes k) (sum_by (near_in k) (range_with_len 0 (length k.depth)))
count_nodes k = count_over (λ (p : ℕ). Strikes3 k (Some p)) (near_in k) (λ p q s h g. same_some p q (one_part k (Some p) (Some q) s h g))
    (λ p. count_part k (Some p) (copy_count k p First) (copy_count k p Second) (copy_count k p Third) (nodes_counted k p First) (nodes_counted k p Second) (nodes_counted k p Third))
    0 (length k.depth)

near_strikes : (k : PlainCert) (p : Option ℕ) (s : Strikes) → ((c : CopyNo) → IsIn k s.one p c → MayBeStruck k s.one) → ((c : CopyNo) → IsIn k s.other p c → MayBeStruck k s.other) → Strikes3 k p s → AreNear k s
near_strikes k p s one other h = go (place_of k p s h)
  where
    go : (c : CopyNo) × (d : CopyNo) × (copy_number c < copy_number d) × Strike k p c d s → AreNear k s
    go (c, d, l, is) = record {
      near = record {
        part = p;
        one = c;
        other = d;
        one_struck = is.0.0;
        other_struck = is.0.1;
        differ = λ e. let same = ap copy_number e in absurd (omega (arith, l, same));
        not_before = is.1.1;
        not_after = is.1.2;
      };
      in_order = l;
      one_may = one c is.0.0;
      other_may = other d is.0.1;
      begins = is.1.0;
    }

strikes_near : (k : PlainCert) (s : Strikes) (n : AreNear k s) → Strikes3 k n.near.part s
strikes_near k s n = of_place k n.near.part s n.near.one n.near.other n.in_order ((n.near.one_struck, n.near.other_struck), (n.begins, n.near.not_before, n.near.not_after))

module _ (k : PlainCert) (is : IsCert k) (three : k.hardened_inputs ≡ 3 * k.original_inputs) where
  nodes_near : (s : Strikes) → OfNodes k s → AreNear k s
  nodes_near s (p, l, h, strikes) = near_strikes k (Some p) s (λ c there v. (is_node k is s.one p c there).1) (λ c there v. (is_node k is s.other p c there).1) strikes

  near_nodes : (s : Strikes) (p : ℕ) → Strikes3 k (Some p) s → OfNodes k s
  near_nodes s p strikes = go (place_of k (Some p) s strikes)
    where
      go : (c : CopyNo) × (d : CopyNo) × (copy_number c < copy_number d) × Strike k (Some p) c d s → OfNodes k s
      go (c, d, l, there) = (p, omega arith, omega (arith, (is_node k is s.one p c there.0.0).0), strikes)

  no_input : (s : Strikes) → k.version ≡ 1 → MayBeStruck k s.one → Strikes3 k None s → ⊥
  no_input s v may strikes = go (place_of k None s strikes)
    where
      go : (c : CopyNo) × (d : CopyNo) × (copy_number c < copy_number d) × Strike k None c d s → ⊥
      go (c, d, l, there) = omega (arith, may v, is_input k is s.one c there.0.0)

  -- in version 1
  of_nodes_alone : k.version ≡ 1 → (s : Strikes) → AreNear k s → (p : Option ℕ) → Strikes3 k p s → OfNodes k s
  of_nodes_alone v s n (Some p) strikes = near_nodes s p strikes
  of_nodes_alone v s n None strikes = absurd (no_input s v n.one_may strikes)

  only_nodes : k.version ≡ 1 → Counts (AreNear k) (0 + sum_by (near_in k) (range_with_len 0 (length k.depth)))
  only_nodes v = count_same (OfNodes k) (AreNear k) (sum_by (near_in k) (range_with_len 0 (length k.depth))) (0 + sum_by (near_in k) (range_with_len 0 (length k.depth))) (omega arith) nodes_near (λ s n. of_nodes_alone v s n n.near.part (strikes_near k s n)) (count_nodes k)

  -- in version 2
  apart : (s : Strikes) → Strikes3 k None s → OfNodes k s → ⊥
  apart s inputs (p, l, h, strikes) = let e = one_part k None (Some p) s inputs strikes in cc

  either_near : (k.version ≡ 1 → ⊥) → (s : Strikes) → Strikes3 k None s ⊎ OfNodes k s → AreNear k s
  either_near v s (inl inputs) = near_strikes k None s (λ c there e. absurd (v e)) (λ c there e. absurd (v e)) inputs
  either_near v s (inr nodes) = nodes_near s nodes

  near_either : (s : Strikes) (p : Option ℕ) → Strikes3 k p s → Strikes3 k None s ⊎ OfNodes k s
  near_either s (Some p) strikes = inr (near_nodes s p strikes)
  near_either s None strikes = inl strikes

  with_inputs : (k.version ≡ 1 → ⊥) → Counts (AreNear k) (near_of k.original_inputs k.original_inputs k.original_inputs 0 + sum_by (near_in k) (range_with_len 0 (length k.depth)))
  with_inputs v =
      let all = near_of k.original_inputs k.original_inputs k.original_inputs 0 + sum_by (near_in k) (range_with_len 0 (length k.depth)) in
      count_same (λ (s : Strikes). Strikes3 k None s ⊎ OfNodes k s) (AreNear k) all all refl (either_near v) (λ s n. near_either s n.near.part (strikes_near k s n))
      (count_either (Strikes3 k None) (OfNodes k) (near_of k.original_inputs k.original_inputs k.original_inputs 0) (sum_by (near_in k) (range_with_len 0 (length k.depth))) apart
      (count_part k None k.original_inputs k.original_inputs k.original_inputs (inputs_counted k First is three) (inputs_counted k Second is three) (inputs_counted k Third is three))
      (count_nodes k))

  -- so many as the text tells
  by_version : (b : Bool) → (k.version == 1) ≡ b → Counts (AreNear k) (cond b 0 (near_of k.original_inputs k.original_inputs k.original_inputs 0) + sum_by (near_in k) (range_with_len 0 (length k.depth)))
  by_version true e = only_nodes (eqb-true k.version 1 e)
  by_version false e = with_inputs (λ v. true_or_false (k.version == 1) e (eq-eqb k.version 1 v))

  pub near_counted : AreSoMany (AreNear k) (near_total k)
  near_counted = so_many (AreNear k) (near_total k) (by_version (k.version == 1) refl)
