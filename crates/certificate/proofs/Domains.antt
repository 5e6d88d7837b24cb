-- A net belongs to one partition and copy alone.
use Rattle.std.proofs.Common.{◌≡◌, ℕ, ◌+◌, ◌*◌, ◌<◌, Option, Some, None, refl, sym, ◌∙◌, arith}
use Rattle.tmr_base.specs.declared.copies.CopyNo.{CopyNo}
use Rattle.tmr_base.specs.declared.copies.CopyNo.TheVariants.{First, Second, Third}
use Rattle.tmr_base.specs.Copies.{copy_number}
use Rattle.certificate.specs.declared.role.Role.{Role}
use Rattle.certificate.specs.declared.role.Role.TheVariants.{Copy, Voter}
use Rattle.certificate.specs.Cert.{PlainCert, role_of}
use Rattle.certificate.specs.Schedules.{RoleIsIn, IsIn}

-- a copy is one of three
pub copy_below : (c : CopyNo) → copy_number c < 3
copy_below First = omega arith
copy_below Second = omega arith
copy_below Third = omega arith

-- a copy is known by its number
pub same_copy : (c d : CopyNo) → copy_number c ≡ copy_number d → c ≡ d
same_copy First First e = refl
same_copy First Second e = absurd (omega arith)
same_copy First Third e = absurd (omega arith)
same_copy Second First e = absurd (omega arith)
same_copy Second Second e = refl
same_copy Second Third e = absurd (omega arith)
same_copy Third First e = absurd (omega arith)
same_copy Third Second e = absurd (omega arith)
same_copy Third Third e = refl

-- where there are three places for each partition, one for each copy, those of two copies differ
pub one_place : (p q : ℕ) (c d : CopyNo) → 3 * p + copy_number c ≡ 3 * q + copy_number d → (p ≡ q) × (c ≡ d)
one_place p q c d e =
    let same : p ≡ q = omega (arith, copy_below c, copy_below d) in
    (same, same_copy c d (omega arith))

-- a net belongs to one partition and copy alone
pub one_domain : (k : PlainCert) (h : ℕ) (p q : Option ℕ) (c d : CopyNo) → IsIn k h p c → IsIn k h q d → (p ≡ q) × (c ≡ d)
one_domain k h p q c d = go (role_of k h)
  where
    go : (o : Option Role) → RoleIsIn k o h p c → RoleIsIn k o h q d → (p ≡ q) × (c ≡ d)
    go None (i, (i_in, h_in, at), is_p) (j, (j_in, g_in, also), is_q) = (is_p ∙ sym is_q, (one_place i j c d (sym at ∙ also)).1)
    go (Some (Copy x e)) a b = (sym a.0 ∙ b.0, sym a.1 ∙ b.1)
    go (Some (Voter x r e)) a b = (sym a.0 ∙ b.0, sym a.1 ∙ b.1)
