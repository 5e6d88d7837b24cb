-- The hardened nodes by partition and copy. Private functions alone cite it.
use Rattle.std.specs.Prelude.{◌≡◌, ℕ, ◌<◌, List, length}
use Rattle.tmr_base.specs.declared.copies.CopyNo.{CopyNo}
use Rattle.tmr_base.specs.declared.copies.CopyNo.TheVariants.{First, Second, Third}
use Rattle.certificate.specs.Cert.{PlainCert}
use Rattle.graph.specs.Rows.{row}
use Rattle.tmr_trial.specs.declared.members.Members.{Members}
use Rattle.tmr_trial.specs.NearSchedules.{nodes_among}

-- the rows of a copy, one for each partition
abbrev pub rows_of : Members → CopyNo → List (List ℕ)
rows_of m First = m.first
rows_of m Second = m.second
rows_of m Third = m.third

-- the rows have the first hardened nodes
pub record AreMembers (k : PlainCert) (count : ℕ) (m : Members) : Type 0 where
  pub long : (c : CopyNo) → length (rows_of m c) ≡ length k.depth
  pub listed : (p : ℕ) (c : CopyNo) → p < length k.depth → row (rows_of m c) p ≡ nodes_among k count p c
