-- The three copies of a net, and a number for each copy.
use Rattle.std.specs.Prelude.{ℕ}
use Rattle.tmr_base.specs.declared.copies.CopyNo.{CopyNo}
use Rattle.tmr_base.specs.declared.copies.CopyNo.TheVariants.{First, Second, Third}

abbrev pub copy_number : CopyNo → ℕ
copy_number First = 0
copy_number Second = 1
copy_number Third = 2

-- a number for each copy
pub record Three : Type 0 where
  pub first : ℕ
  pub second : ℕ
  pub third : ℕ

abbrev pub of_copy : Three → CopyNo → ℕ
of_copy t First = t.first
of_copy t Second = t.second
of_copy t Third = t.third
