-- Which nets belong to a copy of a partition, and how many they are. k is the certificate of a hardened design; None is the partition of the inputs.
use Rattle.std.specs.Prelude.{◌≡◌, ℕ, ◌↔◌, List, length, Option, Contains}
use Rattle.std.specs.List.Sorted.{IsStrictlyIncreasing}
use Rattle.tmr_base.specs.declared.copies.CopyNo.{CopyNo}
use Rattle.certificate.specs.Cert.{PlainCert}
use Rattle.certificate.specs.Schedules.{IsIn}

-- so many nets belong to the partition and the copy: a list has each of them once, and no other
pub record HasNets (k : PlainCert) (part : Option ℕ) (copy : CopyNo) (count : ℕ) : Type 0 where
  pub nets : List ℕ
  pub once : IsStrictlyIncreasing nets
  pub exact : (h : ℕ) → Contains nets h ↔ IsIn k h part copy
  pub long : length nets ≡ count
