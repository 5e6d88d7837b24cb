-- Which schedules of upsets a certificate allows, and when a partition is quiet. None is the partition of the inputs.
use Rattle.std.specs.Prelude.{◌≡◌, ◌≢◌, ℕ, ◌+◌, ◌-◌, ◌<◌, ◌≤◌, ◌⊎◌, List, Option, Some, None, Contains}
use Rattle.tmr_base.specs.declared.copies.CopyNo.{CopyNo}
use Rattle.tmr_base.specs.declared.ids.Upset.{Upset}
use Rattle.certificate.specs.declared.role.Role.{Role}
use Rattle.certificate.specs.declared.role.Role.TheVariants.{Copy, Voter}
use Rattle.certificate.specs.Cert.{PlainCert, IsInputCopy, role_of, part_of, part_depth}

-- hardened net h, of this role, belongs to partition p and copy c
abbrev pub RoleIsIn : PlainCert → Option Role → ℕ → Option ℕ → CopyNo → Type 0
RoleIsIn k None h p c = (i : ℕ) × IsInputCopy k h i c × (p ≡ None)
RoleIsIn k (Some (Copy x d)) h p c = (part_of k x.0 ≡ p) × (d ≡ c)
RoleIsIn k (Some (Voter x q d)) h p c = (Some q.0 ≡ p) × (d ≡ c)

-- hardened net h belongs to partition p and copy c
abbrev pub IsIn : PlainCert → ℕ → Option ℕ → CopyNo → Type 0
IsIn k h p c = RoleIsIn k (role_of k h) h p c

-- upsets of two copies of one partition are more than its depth apart
abbrev pub Allowed : List Upset → PlainCert → Type 0
Allowed s k =
    (u v : Upset) (p : Option ℕ) (c d : CopyNo) → Contains s u → Contains s v → IsIn k u.net.0 p c → IsIn k v.net.0 p d → c ≢ d →
    (u.cycle + part_depth k p < v.cycle) ⊎ (v.cycle + part_depth k p < u.cycle)

-- no upset of partition p and copy c has a cycle from t - e to t
abbrev pub IsClear : List Upset → PlainCert → Option ℕ → CopyNo → ℕ → ℕ → Type 0
IsClear s k p c e t = (u : Upset) → Contains s u → IsIn k u.net.0 p c → t - e ≤ u.cycle → u.cycle ≤ t → ⊥

-- no upset of partition p has a cycle in the window of its depth that ends at t
abbrev pub IsQuiet : List Upset → PlainCert → Option ℕ → ℕ → Type 0
IsQuiet s k p t = (c : CopyNo) → IsClear s k p c (part_depth k p) t
