-- Which hardened net stands for which original net.
use Rattle.std.specs.Prelude.{◌≡◌, ℕ, Option, Some, None}
use Rattle.tmr_base.specs.declared.copies.CopyNo.{CopyNo}
use Rattle.certificate.specs.declared.role.Role.{Role}
use Rattle.certificate.specs.declared.role.Role.TheVariants.{Copy, Voter}
use Rattle.certificate.specs.Cert.{PlainCert, IsInputCopy, role_of, part_of}

-- a copy reads its node in its own partition; a voter reads its net in the partition that it is for; in version 1 alone an input reads its original
abbrev pub RoleReads : PlainCert → Option Role → ℕ → ℕ → ℕ → CopyNo → Type 0
RoleReads k None g x p c = (k.version ≡ 1) × IsInputCopy k g x c
RoleReads k (Some (Copy y d)) g x p c = (y.0 ≡ x) × (d ≡ c) × (part_of k x ≡ Some p)
RoleReads k (Some (Voter y q d)) g x p c = (y.0 ≡ x) × (q.0 ≡ p) × (d ≡ c)

-- hardened net g reads x for partition p and copy c
abbrev pub Reads : PlainCert → ℕ → ℕ → ℕ → CopyNo → Type 0
Reads k g x p c = RoleReads k (role_of k g) g x p c
