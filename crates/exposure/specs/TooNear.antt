-- Which two upsets are too near. k is the certificate of a hardened design; None is the partition of the inputs.
use Rattle.std.specs.Prelude.{◌≢◌, ℕ, ◌+◌, ◌≤◌, List, Option, Contains}
use Rattle.tmr_base.specs.declared.copies.CopyNo.{CopyNo}
use Rattle.tmr_base.specs.declared.ids.Upset.{Upset}
use Rattle.certificate.specs.Cert.{PlainCert, part_depth}
use Rattle.certificate.specs.Schedules.{IsIn}

-- two upsets are too near where they strike different copies of one partition, in cycles that are at most its depth apart
pub record AreTooNear (k : PlainCert) (u v : Upset) : Type 0 where
  pub part : Option ℕ
  pub one : CopyNo
  pub other : CopyNo
  pub one_struck : IsIn k u.net.0 part one
  pub other_struck : IsIn k v.net.0 part other
  pub differ : one ≢ other
  pub not_before : v.cycle ≤ u.cycle + part_depth k part
  pub not_after : u.cycle ≤ v.cycle + part_depth k part

-- no two upsets of a schedule are too near
abbrev pub NoneTooNear : List Upset → PlainCert → Type 0
NoneTooNear s k = (u v : Upset) → Contains s u → Contains s v → AreTooNear k u v → ⊥
