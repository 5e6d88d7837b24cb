-- Only private functions cite this: what is counted and written so far.
use Rattle.std.specs.Prelude.{◌≡◌, ℕ, ◌-◌, ◌<◌, List, length, slice_index}
use Rattle.std.specs.List.{flat_map, range_with_len}
use Rattle.tmr_base.specs.declared.copies.CopyNo.{CopyNo}
use Rattle.tmr_base.specs.declared.copies.CopyNo.TheVariants.{First, Second, Third}
use Rattle.certificate.specs.Cert.{PlainCert}
use Rattle.certificate.specs.Text.{line_text}
use Rattle.exposure.specs.declared.counting.CopyCounts.{CopyCounts}
use Rattle.exposure.specs.Counts.{copy_count}
use Rattle.exposure.specs.Text.{part_lines}

-- a number for each partition, which counts its nodes of copy c
pub record AreCountsOf (k : PlainCert) (c : CopyNo) (counts : List ℕ) : Type 0 where
  pub long : length counts ≡ length k.depth
  pub each : (p : ℕ) → p < length k.depth → slice_index counts p ≡ copy_count k p c

-- the numbers count the nodes of each copy
pub record AreCounted (k : PlainCert) (counts : CopyCounts) : Type 0 where
  pub first : AreCountsOf k First counts.first.items
  pub second : AreCountsOf k Second counts.second.items
  pub third : AreCountsOf k Third counts.third.items

-- the lines of the partitions from p on
abbrev pub lines_left : PlainCert → ℕ → List ℕ
lines_left k p = flat_map line_text (flat_map (part_lines k) (range_with_len p (length k.depth - p)))
