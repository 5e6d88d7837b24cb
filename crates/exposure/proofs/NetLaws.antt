-- Nets that are counted, as lists.
use Rattle.std.proofs.Common.{◌≡◌, ℕ, zero, suc, ◌+◌, ◌*◌, ◌-◌, ◌<◌, ◌≤◌, ◌⊎◌, inl, inr, Bool, true, false, cond, List, [], ◌∷◌, length, get_or, map, slice_get, Option, Some, None, refl, sym, ap, ◌∙◌, subst, arith}
use Rattle.std.specs.Prelude.{count_by, slice_index, Contains}
use Rattle.std.specs.List.{range_with_len}
use Rattle.std.specs.List.Sorted.{IsStrictlyIncreasing}
use Rattle.std.proofs.lemmas.Bool.{cases_eq}
use Rattle.std.proofs.lemmas.List.FromFn.{get_or-map-range_with_len, length-map-range_with_len}
use Rattle.std.proofs.lemmas.List.Sums.{sum_by-cons}
use Rattle.tmr_base.specs.declared.copies.CopyNo.{CopyNo}
use Rattle.tmr_base.specs.Copies.{copy_number}
use Rattle.flat_net.proofs.Slots.{slot_at, slot_within}
use Rattle.certificate.specs.declared.role.Role.{Role}
use Rattle.certificate.specs.Cert.{PlainCert, IsCert, role_of}
use Rattle.certificate.specs.Schedules.{RoleIsIn, IsIn}
use Rattle.exposure.specs.Counts.{is_of, copy_count}
use Rattle.exposure.specs.Nets.{HasNets}
use Rattle.exposure.proofs.NearLaws.{counted_is_in, input_is_in}

-- the numbers of the entries that pass, where the first entry has the number start
abbrev pub places : (Role → Bool) → ℕ → List Role → List ℕ
places test start [] = []
places test start (r ∷ rs) = cond (test r) (start ∷ places test (start + 1) rs) (places test (start + 1) rs)

abbrev one_of : Bool → ℕ
one_of b = cond b 1 0

module _ (test : Role → Bool) where
  long_places : (start : ℕ) (rs : List Role) → length (places test start rs) ≡ count_by test rs
  long_places start [] = refl
  long_places start (r ∷ rs) = go (test r) refl (long_places (start + 1) rs)
    where
      more : count_by test (r ∷ rs) ≡ one_of (test r) + count_by test rs
      more = sum_by-cons (λ q. cond (test q) 1 0) r rs

      go : (b : Bool) → test r ≡ b → length (places test (start + 1) rs) ≡ count_by test rs → length (cond b (start ∷ places test (start + 1) rs) (places test (start + 1) rs)) ≡ count_by test (r ∷ rs)
      go true e ih = omega (arith, ih, more, ap one_of e)
      go false e ih = omega (arith, ih, more, ap one_of e)

  above : (start : ℕ) (rs : List Role) (k : ℕ) → k < length (places test start rs) → start ≤ slice_index (places test start rs) k
  above start [] k l = absurd (omega (arith, l))
  above start (r ∷ rs) k l = go (test r) k l (above (start + 1) rs)
    where
      go : (b : Bool) (k : ℕ) → k < length (cond b (start ∷ places test (start + 1) rs) (places test (start + 1) rs)) → ((k : ℕ) → k < length (places test (start + 1) rs) → start + 1 ≤ slice_index (places test (start + 1) rs) k)
          → start ≤ slice_index (cond b (start ∷ places test (start + 1) rs) (places test (start + 1) rs)) k
      go true zero l ih = omega arith
      go true (suc k) l ih = omega (arith, ih k (omega (arith, l)))
      go false k l ih = omega (arith, ih k l)

  rising : (start : ℕ) (rs : List Role) → IsStrictlyIncreasing (places test start rs)
  rising start [] k l = absurd (omega (arith, l))
  rising start (r ∷ rs) k l = go (test r) k l (rising (start + 1) rs)
    where
      go : (b : Bool) (k : ℕ) → k + 1 < length (cond b (start ∷ places test (start + 1) rs) (places test (start + 1) rs)) → IsStrictlyIncreasing (places test (start + 1) rs)
          → slice_index (cond b (start ∷ places test (start + 1) rs) (places test (start + 1) rs)) k < slice_index (cond b (start ∷ places test (start + 1) rs) (places test (start + 1) rs)) (k + 1)
      go true zero l ih =
          let one : 0 + 1 ≡ suc zero = omega arith in
          let next : slice_index (start ∷ places test (start + 1) rs) (0 + 1) ≡ slice_index (places test (start + 1) rs) 0 = ap (slice_index (start ∷ places test (start + 1) rs)) one in
          omega (arith, next, above (start + 1) rs 0 (omega (arith, l)))
      go true (suc k) l ih =
          let one : suc k + 1 ≡ suc (k + 1) = omega arith in
          let next : slice_index (start ∷ places test (start + 1) rs) (suc k + 1) ≡ slice_index (places test (start + 1) rs) (k + 1) = ap (slice_index (start ∷ places test (start + 1) rs)) one in
          omega (arith, next, ih k (omega (arith, l)))
      go false k l ih = ih k l

  -- an entry that passes
  record Passes (start h : ℕ) (rs : List Role) : Type 0 where
    low : start ≤ h
    role : Role
    there : slice_get rs (h - start) ≡ Some role
    passes : test role ≡ true

  behind : (start h : ℕ) (r : Role) (rs : List Role) → Passes (start + 1) h rs → Passes start h (r ∷ rs)
  behind start h r rs f =
      let place : h - start ≡ suc (h - (start + 1)) = omega (arith, f.low) in
      record { low = omega (arith, f.low); role = f.role; there = ap (slice_get (r ∷ rs)) place ∙ f.there; passes = f.passes }

  found : (start h : ℕ) (rs : List Role) → Contains (places test start rs) h → Passes start h rs
  found start h [] (k, l, e) = absurd (omega (arith, l))
  found start h (r ∷ rs) c = go (test r) refl (found (start + 1) h rs) c
    where
      go : (b : Bool) → test r ≡ b → (Contains (places test (start + 1) rs) h → Passes (start + 1) h rs) → Contains (cond b (start ∷ places test (start + 1) rs) (places test (start + 1) rs)) h → Passes start h (r ∷ rs)
      go true e ih (zero, l, at) =
          let place : h - start ≡ 0 = omega (arith, at) in
          record { low = omega (arith, at); role = r; there = ap (slice_get (r ∷ rs)) place; passes = e }
      go true e ih (suc k, l, at) = behind start h r rs (ih (k, omega (arith, l), at))
      go false e ih c = behind start h r rs (ih c)

  listed : (start h : ℕ) (rs : List Role) (role : Role) → start ≤ h → slice_get rs (h - start) ≡ Some role → test role ≡ true → Contains (places test start rs) h
  listed start h [] role low there passes = absurd (let none : None ≡ Some role = there in cc)
  listed start h (r ∷ rs) role low there passes = go (cases_eq h start) (listed (start + 1) h rs role)
    where
      keep : (b : Bool) → Contains (places test (start + 1) rs) h → Contains (cond b (start ∷ places test (start + 1) rs) (places test (start + 1) rs)) h
      keep true (k, l, e) = (suc k, omega (arith, l), e)
      keep false c = c

      first : (b : Bool) → b ≡ true → h ≡ start → Contains (cond b (start ∷ places test (start + 1) rs) (places test (start + 1) rs)) h
      first true e same = (0, omega arith, sym same)
      first false e same = absurd (cc)

      go : (h ≡ start) ⊎ (h ≡ start → ⊥) → (start + 1 ≤ h → slice_get rs (h - (start + 1)) ≡ Some role → test role ≡ true → Contains (places test (start + 1) rs) h)
          → Contains (cond (test r) (start ∷ places test (start + 1) rs) (places test (start + 1) rs)) h
      go (inl same) ih =
          let place : 0 ≡ h - start = omega (arith, same) in
          let here : Some r ≡ Some role = ap (slice_get (r ∷ rs)) place ∙ there in
          let own : r ≡ role = cc in
          first (test r) (ap test own ∙ passes) same
      go (inr apart) ih =
          let place : suc (h - (start + 1)) ≡ h - start = omega (arith, apart, low) in
          keep (test r) (ih (omega (arith, apart, low)) (ap (slice_get (r ∷ rs)) place ∙ there) passes)

module _ (k : PlainCert) (p : ℕ) (c : CopyNo) where
  to_in : (h : ℕ) → Passes (is_of k p c) k.hardened_inputs h k.roles → IsIn k h (Some p) c
  to_in h f = (counted_is_in k h p c f.role (slot_at k.hardened_inputs k.roles h f.low ∙ f.there)).0 f.passes

  from_in : (h : ℕ) → IsIn k h (Some p) c → Contains (places (is_of k p c) k.hardened_inputs k.roles) h
  from_in h there = go (role_of k h) refl there
    where
      go : (o : Option Role) → role_of k h ≡ o → RoleIsIn k o h (Some p) c → Contains (places (is_of k p c) k.hardened_inputs k.roles) h
      go None e (i, copy, none) = absurd (cc)
      go (Some r) e is =
          let range = slot_within k.hardened_inputs k.roles h r e in
          listed (is_of k p c) k.hardened_inputs h k.roles r range.0 (sym (slot_at k.hardened_inputs k.roles h range.0) ∙ e) ((counted_is_in k h p c r e).1 (subst (λ (o : Option Role). RoleIsIn k o h (Some p) c) (sym e) is))

  pub nodes_counted : HasNets k (Some p) c (copy_count k p c)
  nodes_counted = record {
    nets = places (is_of k p c) k.hardened_inputs k.roles;
    once = rising (is_of k p c) k.hardened_inputs k.roles;
    exact = λ h. (λ there. to_in h (found (is_of k p c) k.hardened_inputs h k.roles there), from_in h);
    long = long_places (is_of k p c) k.hardened_inputs k.roles;
  }

module _ (k : PlainCert) (c : CopyNo) (is : IsCert k) (three : k.hardened_inputs ≡ 3 * k.original_inputs) where
  copy_at : (i d : ℕ) → i < k.original_inputs → get_or (map (λ i. 3 * i + copy_number c) (range_with_len 0 k.original_inputs)) i d ≡ 3 * i + copy_number c
  copy_at i d l = get_or-map-range_with_len (λ i. 3 * i + copy_number c) 0 k.original_inputs i i d l (omega arith)

  long_copies : length (map (λ i. 3 * i + copy_number c) (range_with_len 0 k.original_inputs)) ≡ k.original_inputs
  long_copies = length-map-range_with_len (λ i. 3 * i + copy_number c) 0 k.original_inputs

  pub inputs_counted : HasNets k None c k.original_inputs
  inputs_counted = record {
    nets = map (λ i. 3 * i + copy_number c) (range_with_len 0 k.original_inputs);
    once = λ i l. omega (arith, copy_at i 0 (omega (arith, l, long_copies)), copy_at (i + 1) 0 (omega (arith, l, long_copies)));
    exact = λ h. (λ (i, l, e). (input_is_in k h c is three).1 (i, omega (arith, l, long_copies), sym e ∙ copy_at i h (omega (arith, l, long_copies))), λ there. to_list h ((input_is_in k h c is three).0 there));
    long = long_copies;
  }
    where
      to_list : (h : ℕ) → (i : ℕ) × (i < k.original_inputs) × (h ≡ 3 * i + copy_number c) → Contains (map (λ i. 3 * i + copy_number c) (range_with_len 0 k.original_inputs)) h
      to_list h (i, l, e) = (i, omega (arith, l, long_copies), copy_at i h l ∙ sym e)
