-- Each schedule that an accepted certificate with the same roles allows, the finest allows.
use Rattle.std.proofs.Common.{◌≡◌, ℕ, ◌+◌, ◌<◌, ◌≤◌, ◌⊎◌, inl, inr, Bool, List, Option, Some, None, refl, sym, ap, subst, ◌∙◌, arith}
use Rattle.tmr_base.specs.declared.copies.CopyNo.{CopyNo}
use Rattle.tmr_base.specs.declared.ids.Upset.{Upset}
use Rattle.flat_net.specs.Net.{Net}
use Rattle.flat_net.proofs.Slots.{slot_there, slot_none}
use Rattle.certificate.specs.declared.role.Role.{Role}
use Rattle.certificate.specs.declared.role.Role.TheVariants.{Copy, Voter}
use Rattle.certificate.specs.Cert.{PlainCert, role_of, part_depth, depth_of}
use Rattle.certificate.specs.Schedules.{RoleIsIn, IsIn, Allowed}
use Rattle.certifying.specs.Certified.{IsAccepted}
use Rattle.certifying.specs.Finest.{SameRoles, role_place, place_of, IsFiner, IsFinest, AllowsMore}

-- hardened net a, of partition p of k, is in some partition of m, for the same copy
record Moved (k m : PlainCert) (a p : ℕ) (c : CopyNo) : Type 0 where
  part : ℕ
  place : place_of m a ≡ Some part
  own : place_of k a ≡ Some p
  is_in : IsIn m a (Some part) c

module _ (n : Net) (f : List Bool) (h : Net) (g : List Bool) (version : ℕ) (k m : PlainCert) (found : IsAccepted n f h g version k) (other : IsAccepted n f h g k.version m) (same : SameRoles k m) (finer : IsFiner k m) where
  moved : (a p : ℕ) (c : CopyNo) → IsIn k a (Some p) c → Moved k m a p c
  moved a p c is = go (role_of k a) refl is
    where
      go : (o : Option Role) → role_of k a ≡ o → RoleIsIn k o a (Some p) c → Moved k m a p c
      go None e input = let wrong : Some p ≡ None = input.2 in absurd (cc)
      go (Some (Copy x d)) e own =
          let there : role_of m a ≡ Some (Copy x d) = same.copies a x.0 d e in
          let range = other.cert.roles_in_range a (Copy x d) there in
          let (q, at) = slot_there m.original_inputs m.part x.0 range.0 range.1 in
          record {
            part = q;
            place = ap (role_place m) there ∙ at;
            own = ap (role_place k) e ∙ own.0;
            is_in = subst (λ (o : Option Role). RoleIsIn m o a (Some q) c) (sym there) (at, own.1);
          }
      go (Some (Voter x q d)) e own =
          let (r, there) = same.voters a x.0 q.0 d e in
          record {
            part = r;
            place = ap (role_place m) there;
            own = ap (role_place k) e ∙ own.0;
            is_in = subst (λ (o : Option Role). RoleIsIn m o a (Some r) c) (sym there) (refl, own.1);
          }

  -- an input's copy is one in m too
  input_moved : (a : ℕ) (c : CopyNo) → IsIn k a None c → IsIn m a None c
  input_moved a c is = go (role_of k a) refl is
    where
      go : (o : Option Role) → role_of k a ≡ o → RoleIsIn k o a None c → IsIn m a None c
      go None e input =
          let none : role_of m a ≡ None = slot_none k.hardened_inputs m.hardened_inputs k.roles m.roles a (found.fits.hardened_inputs ∙ sym other.fits.hardened_inputs) (found.fits.hardened_nodes ∙ sym other.fits.hardened_nodes) e in
          subst (λ (o : Option Role). RoleIsIn m o a None c) (sym none)
          (input.0, (omega (arith, input.1.0, found.fits.original_inputs, other.fits.original_inputs), omega (arith, input.1.1, found.fits.hardened_inputs, other.fits.hardened_inputs), input.1.2), refl)
      go (Some (Copy x d)) e own =
          let range = found.cert.roles_in_range a (Copy x d) e in
          let (q, at) = slot_there k.original_inputs k.part x.0 range.0 range.1 in
          let wrong : Some q ≡ None = sym at ∙ own.0 in
          absurd (cc)
      go (Some (Voter x q d)) e own = let wrong : Some q.0 ≡ None = own.0 in absurd (cc)

  allows : (s : List Upset) → Allowed s m → Allowed s k
  allows s allowed u v None c d has_u has_v in_u in_v differ = allowed u v None c d has_u has_v (input_moved u.net.0 c in_u) (input_moved v.net.0 d in_v) differ
  allows s allowed u v (Some p) c d has_u has_v in_u in_v differ = go (allowed u v (Some here.part) c d has_u has_v here.is_in there_in differ)
    where
      here : Moved k m u.net.0 p c
      here = moved u.net.0 p c in_u

      there : Moved k m v.net.0 p d
      there = moved v.net.0 p d in_v

      one : Some there.part ≡ Some here.part
      one = sym there.place ∙ (finer.hardened v.net.0 u.net.0 p there.own here.own ∙ here.place)

      there_in : IsIn m v.net.0 (Some here.part) d
      there_in = subst (λ (o : Option ℕ). IsIn m v.net.0 o d) one there.is_in

      depth : depth_of k p ≤ depth_of m here.part
      depth = finer.depths u.net.0 p here.part here.own here.place

      go : (u.cycle + part_depth m (Some here.part) < v.cycle) ⊎ (v.cycle + part_depth m (Some here.part) < u.cycle) → (u.cycle + part_depth k (Some p) < v.cycle) ⊎ (v.cycle + part_depth k (Some p) < u.cycle)
      go (inl l) = inl (omega (arith, depth, l))
      go (inr l) = inr (omega (arith, depth, l))

pub allows_more : (n h : Net) (f g : List Bool) (version : ℕ) (k m : PlainCert) → IsAccepted n f h g version k → IsFinest n f h g k → IsAccepted n f h g k.version m → SameRoles k m → AllowsMore k m
allows_more n h f g version k m found finest other same = allows n f h g version k m found other same (finest m other same)
