-- Allowed schedules, and nets that are counted.
use Rattle.std.proofs.Common.{◌≡◌, ℕ, ◌+◌, ◌*◌, ◌<◌, ◌≤◌, ◌⊎◌, inl, inr, true, List, Option, Some, None, refl, sym, ap, ◌∙◌, subst, arith}
use Rattle.std.specs.Prelude.{◌==◌, ◌↔◌, IsTrue}
use Rattle.std.proofs.lemmas.Bool.{cases_lt, eqb-true, eq-eqb, and_parts, and_from}
use Rattle.tmr_base.specs.declared.copies.CopyNo.{CopyNo}
use Rattle.tmr_base.specs.declared.ids.Upset.{Upset}
use Rattle.tmr_base.specs.Copies.{copy_number}
use Rattle.certificate.specs.declared.role.Role.{Role}
use Rattle.certificate.specs.declared.role.Role.TheVariants.{Copy, Voter}
use Rattle.certificate.specs.Cert.{PlainCert, IsCert, role_of, part_depth}
use Rattle.flat_net.proofs.Slots.{slot_there, slot_below}
use Rattle.certificate.specs.Schedules.{RoleIsIn, IsIn, Allowed}
use Rattle.certificate.proofs.Domains.{copy_below, same_copy}
use Rattle.exposure.specs.Counts.{role_part, role_copy, is_same_part, is_of}
use Rattle.exposure.specs.TooNear.{NoneTooNear}

module _ (s : List Upset) (k : PlainCert) where
  pub none_where_allowed : Allowed s k → NoneTooNear s k
  none_where_allowed allowed u v in_u in_v near = go (allowed u v near.part near.one near.other in_u in_v near.one_struck near.other_struck near.differ)
    where
      go : (u.cycle + part_depth k near.part < v.cycle) ⊎ (v.cycle + part_depth k near.part < u.cycle) → ⊥
      go (inl l) = omega (arith, near.not_before)
      go (inr l) = omega (arith, near.not_after)

  pub allowed_where_none : NoneTooNear s k → Allowed s k
  allowed_where_none none u v p c d in_u in_v u_in v_in differ = go (cases_lt (u.cycle + part_depth k p) v.cycle) (cases_lt (v.cycle + part_depth k p) u.cycle)
    where
      go : (u.cycle + part_depth k p < v.cycle) ⊎ (v.cycle ≤ u.cycle + part_depth k p) → (v.cycle + part_depth k p < u.cycle) ⊎ (u.cycle ≤ v.cycle + part_depth k p)
          → (u.cycle + part_depth k p < v.cycle) ⊎ (v.cycle + part_depth k p < u.cycle)
      go (inl later) other = inl later
      go (inr soon) (inl earlier) = inr earlier
      go (inr soon) (inr late) = absurd (none u v in_u in_v (record { part = p; one = c; other = d; one_struck = u_in; other_struck = v_in; differ = differ; not_before = soon; not_after = late }))

same_part : (o : Option ℕ) (p : ℕ) → is_same_part o p ≡ true → o ≡ Some p
same_part None p e = absurd (cc)
same_part (Some q) p e = ap Some (eqb-true q p e)

is_same : (o : Option ℕ) (p : ℕ) → o ≡ Some p → is_same_part o p ≡ true
is_same None p e = absurd (cc)
is_same (Some q) p e = eq-eqb q p (let same : q ≡ p = cc in same)

module _ (k : PlainCert) (h p : ℕ) (c : CopyNo) where
  both : (r : Role) → is_of k p c r ≡ true → (role_part k r ≡ Some p) × (role_copy r ≡ c)
  both r e =
      let parts = and_parts (is_same_part (role_part k r) p) (copy_number (role_copy r) == copy_number c) e in
      (same_part (role_part k r) p parts.0, same_copy (role_copy r) c (eqb-true (copy_number (role_copy r)) (copy_number c) parts.1))

  of_both : (r : Role) → role_part k r ≡ Some p → role_copy r ≡ c → is_of k p c r ≡ true
  of_both r part copy =
      and_from (is_same_part (role_part k r) p) (copy_number (role_copy r) == copy_number c) (is_same (role_part k r) p part) (eq-eqb (copy_number (role_copy r)) (copy_number c) (ap copy_number copy))

  is_in : (r : Role) → is_of k p c r ≡ true → RoleIsIn k (Some r) h (Some p) c
  is_in (Copy x d) e = both (Copy x d) e
  is_in (Voter x q d) e = both (Voter x q d) e

  in_is : (r : Role) → RoleIsIn k (Some r) h (Some p) c → is_of k p c r ≡ true
  in_is (Copy x d) (part, copy) = of_both (Copy x d) part copy
  in_is (Voter x q d) (part, copy) = of_both (Voter x q d) part copy

  pub counted_is_in : (r : Role) → role_of k h ≡ Some r → IsTrue (is_of k p c r) ↔ IsIn k h (Some p) c
  counted_is_in r e = (λ b. subst (λ (o : Option Role). RoleIsIn k o h (Some p) c) (sym e) (is_in r b), λ i. in_is r (subst (λ (o : Option Role). RoleIsIn k o h (Some p) c) e i))

module _ (k : PlainCert) (h : ℕ) (c : CopyNo) (is : IsCert k) (three : k.hardened_inputs ≡ 3 * k.original_inputs) where
  from_role : (o : Option Role) → role_of k h ≡ o → RoleIsIn k o h None c → (i : ℕ) × (i < k.original_inputs) × (h ≡ 3 * i + copy_number c)
  from_role None e (i, copy, same) = (i, copy.0, copy.2)
  from_role (Some (Copy x d)) e (part, copy) =
      let range = is.roles_in_range h (Copy x d) e in
      let (p, there) = slot_there k.original_inputs k.part x.0 range.0 range.1 in
      absurd (let none : None ≡ Some p = sym part ∙ there in cc)
  from_role (Some (Voter x q d)) e (part, copy) = absurd (cc)

  to_role : (i : ℕ) → i < k.original_inputs → h ≡ 3 * i + copy_number c → IsIn k h None c
  to_role i l e =
      let low : h < k.hardened_inputs = omega (arith, three, l, e, copy_below c) in
      subst (λ (o : Option Role). RoleIsIn k o h None c) (sym (slot_below k.hardened_inputs k.roles h low)) (i, (l, low, e), refl)

  pub input_is_in : IsIn k h None c ↔ ((i : ℕ) × (i < k.original_inputs) × (h ≡ 3 * i + copy_number c))
  input_is_in = (λ there. from_role (role_of k h) refl there, λ (i, l, e). to_role i l e)
