-- Two of three copies.
use Rattle.std.proofs.Common.{◌≡◌, Bool, arith, inl, inr}
use Rattle.tmr_base.specs.declared.copies.CopyNo.{CopyNo}
use Rattle.tmr_base.specs.declared.copies.CopyNo.TheVariants.{First, Second, Third}
use Rattle.table_cover.specs.Cover.{majority_of}
use Rattle.validator.specs.Masking.{TwoOf}

pub majority_of_two : (f : CopyNo → Bool) (v : Bool) → TwoOf (λ c. f c ≡ v) → majority_of (f First) (f Second) (f Third) ≡ v
majority_of_two f v two = grind arith

pub TwoOf-map : (P Q : CopyNo → Type 0) → ((c : CopyNo) → P c → Q c) → TwoOf P → TwoOf Q
TwoOf-map P Q f (inl p) = inl (f First p.0, f Second p.1)
TwoOf-map P Q f (inr (inl p)) = inr (inl (f First p.0, f Third p.1))
TwoOf-map P Q f (inr (inr p)) = inr (inr (f Second p.0, f Third p.1))
