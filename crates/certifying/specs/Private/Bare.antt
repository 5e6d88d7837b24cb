-- Roles and copies as the search leaves them. The original design has so many inputs as `first` says, and the hardened one `inputs`.
use Rattle.std.specs.Prelude.{◌≡◌, ℕ, ◌+◌, ◌-◌, ◌<◌, ◌≤◌, List, [], length, Some, slice_get, slice_index_or}
use Rattle.tmr_base.specs.declared.ids.NetId.{NetId}
use Rattle.tmr_base.specs.declared.copies.CopyNo.{CopyNo}
use Rattle.tmr_base.specs.Copies.{Three, of_copy}
use Rattle.flat_net.specs.Net.{Net, slot}
use Rattle.certificate.specs.declared.role.Role.{Role}
use Rattle.certificate.specs.declared.role.Role.TheVariants.{Copy, Voter}
use Rattle.certificate.specs.Threes.{three_ids}
use Rattle.certificate.specs.Cert.{PlainCert, IsCert, Fits}

-- copy c of node i, counted from 0
abbrev pub copy_in : List (List NetId) → ℕ → CopyNo → ℕ
copy_in copies i c = of_copy (three_ids (slice_index_or copies i [])) c

-- what the role of hardened net g names is there, and where it is a copy, that copy is g
abbrev pub IsSound : ℕ → ℕ → List (List NetId) → ℕ → Role → Type 0
IsSound version first copies g (Copy x c) = (first ≤ x.0) × (x.0 < first + length copies) × (copy_in copies (x.0 - first) c ≡ g)
IsSound version first copies g (Voter x p c) = (version ≡ 1 → first ≤ x.0) × (x.0 < first + length copies) × (p.0 ≡ 0)

abbrev pub AreSound : ℕ → ℕ → ℕ → List (List NetId) → List Role → Type 0
AreSound version first inputs copies roles = (i : ℕ) (role : Role) → slice_get roles i ≡ Some role → IsSound version first copies (inputs + i) role

-- each copy has its role
abbrev pub HaveRoles : ℕ → ℕ → List Role → List (List NetId) → Type 0
HaveRoles first inputs roles copies =
    (i : ℕ) (c : CopyNo) → i < length copies → slot inputs roles (copy_in copies i c) ≡ Some (Copy (record { 0 = first + i }) c)

abbrev pub AreSmall : Three → Type 0
AreSmall t = (t.first < 4294967296) × (t.second < 4294967296) × (t.third < 4294967296)

-- a certificate of one partition that fits both designs. Of rules it says nothing yet
pub record IsBare (n h : Net) (version : ℕ) (k : PlainCert) : Type 0 where
  pub versioned : k.version ≡ version
  pub cert : IsCert k
  pub fits : Fits n h k
