-- The finest of the certificates that differ in partitions, labels and depths alone.
use Rattle.std.specs.Prelude.{◌≡◌, ℕ, ◌≤◌, Bool, List, Option, Some, None}
use Rattle.tmr_base.specs.declared.copies.CopyNo.{CopyNo}
use Rattle.tmr_base.specs.declared.ids.Upset.{Upset}
use Rattle.flat_net.specs.Net.{Net}
use Rattle.certificate.specs.declared.role.Role.{Role}
use Rattle.certificate.specs.declared.role.Role.TheVariants.{Copy, Voter}
use Rattle.certificate.specs.Cert.{PlainCert, role_of, part_of, depth_of}
use Rattle.certificate.specs.Schedules.{Allowed}
use Rattle.certifying.specs.Certified.{IsAccepted}

-- each hardened node has in m the role that it has in k, but for the number of the partition that it votes for
pub record SameRoles (k m : PlainCert) : Type 0 where
  pub copies : (g x : ℕ) (c : CopyNo) → role_of k g ≡ Some (Copy (record { 0 = x }) c) → role_of m g ≡ Some (Copy (record { 0 = x }) c)
  pub voters : (g x p : ℕ) (c : CopyNo) → role_of k g ≡ Some (Voter (record { 0 = x }) (record { 0 = p }) c)
      → (q : ℕ) × (role_of m g ≡ Some (Voter (record { 0 = x }) (record { 0 = q }) c))

-- the partition of a copy's original, or for which a voter votes
abbrev pub role_place : PlainCert → Option Role → Option ℕ
role_place k None = None
role_place k (Some (Copy x c)) = part_of k x.0
role_place k (Some (Voter x p c)) = Some p.0

-- the partition of hardened node g
abbrev pub place_of : PlainCert → ℕ → Option ℕ
place_of k g = role_place k (role_of k g)

-- each partition of k lies within one of m, and its depth is at most the depth of that one
pub record IsFiner (k m : PlainCert) : Type 0 where
  pub nodes : (x y p : ℕ) → part_of k x ≡ Some p → part_of k y ≡ Some p → part_of m x ≡ part_of m y
  pub hardened : (a b p : ℕ) → place_of k a ≡ Some p → place_of k b ≡ Some p → place_of m a ≡ place_of m b
  pub depths : (a p q : ℕ) → place_of k a ≡ Some p → place_of m a ≡ Some q → depth_of k p ≤ depth_of m q

-- k is finer than each certificate of its version that is accepted for the pair and gives the same roles
abbrev pub IsFinest : Net → List Bool → Net → List Bool → PlainCert → Type 0
IsFinest n f h g k = (m : PlainCert) → IsAccepted n f h g k.version m → SameRoles k m → IsFiner k m

-- each schedule that m allows, k allows
abbrev pub AllowsMore : PlainCert → PlainCert → Type 0
AllowsMore k m = (s : List Upset) → Allowed s m → Allowed s k
