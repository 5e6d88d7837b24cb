-- What is known of the upsets before some place of a list. Private functions alone cite it.
use Rattle.std.specs.Prelude.{◌≡◌, ◌≢◌, ℕ, suc, ◌+◌, ◌*◌, ◌<◌, Bool, ◌&&◌, ◌||◌, nat_lt, List, length, slice_get, slice_index, Option, Some, None}
use Rattle.tmr_base.specs.declared.copies.CopyNo.{CopyNo}
use Rattle.tmr_base.specs.declared.copies.CopyNo.TheVariants.{First, Second, Third}
use Rattle.tmr_base.specs.declared.ids.PartId.{PartId}
use Rattle.tmr_base.specs.declared.ids.Upset.{Upset}
use Rattle.tmr_base.specs.Copies.{copy_number}
use Rattle.certificate.specs.Cert.{PlainCert, part_depth}
use Rattle.certificate.specs.Schedules.{IsIn}

abbrev pub part_number : Option PartId → Option ℕ
part_number None = None
part_number (Some p) = Some p.0

-- the place of a partition among all, in which the inputs come first
abbrev pub place_of : Option ℕ → ℕ
place_of None = 0
place_of (Some p) = suc p

-- the cycle behind the last upset of the partition at this place and copy c, or 0
abbrev pub behind_last : List ℕ → ℕ → CopyNo → ℕ
behind_last lasts place c = slice_index lasts (3 * place + copy_number c)

-- there is such a partition
abbrev pub IsPart : PlainCert → Option ℕ → Type 0
IsPart k None = Unit {0}
IsPart k (Some p) = p < length k.depth

-- an upset in this cycle is at most the depth behind the last one, if there was one
abbrev pub is_close : ℕ → ℕ → ℕ → Bool
is_close last cycle depth = nat_lt 0 last && nat_lt cycle (last + depth)

-- some other copy than c was struck at most the depth before this cycle
abbrev pub is_near : List ℕ → ℕ → CopyNo → ℕ → ℕ → Bool
is_near lasts p First cycle depth = is_close (behind_last lasts p Second) cycle depth || is_close (behind_last lasts p Third) cycle depth
is_near lasts p Second cycle depth = is_close (behind_last lasts p First) cycle depth || is_close (behind_last lasts p Third) cycle depth
is_near lasts p Third cycle depth = is_close (behind_last lasts p First) cycle depth || is_close (behind_last lasts p Second) cycle depth

-- where some upset of partition p and copy c stands among the first
pub record IsStruck (k : PlainCert) (us : List Upset) (count : ℕ) (p : Option ℕ) (c : CopyNo) (last : ℕ) : Type 0 where
  pub place : ℕ
  pub upset : Upset
  pub within : place < count
  pub there : slice_get us place ≡ Some upset
  pub is_in : IsIn k upset.net.0 p c
  pub cycle : upset.cycle + 1 ≡ last

-- the last upsets among the first
pub record AreLasts (k : PlainCert) (us : List Upset) (count : ℕ) (lasts : List ℕ) : Type 0 where
  pub latest : (j : ℕ) (u : Upset) (p : Option ℕ) (c : CopyNo) → j < count → slice_get us j ≡ Some u → IsIn k u.net.0 p c
      → u.cycle < behind_last lasts (place_of p) c
  pub reached : (p : Option ℕ) (c : CopyNo) → IsPart k p → 0 < behind_last lasts (place_of p) c
      → IsStruck k us count p c (behind_last lasts (place_of p) c)

-- among the first upsets, those of two copies of one partition are more than its depth apart
abbrev pub AreApart : PlainCert → List Upset → ℕ → Type 0
AreApart k us count =
    (i j : ℕ) (u v : Upset) (p : Option ℕ) (c d : CopyNo) → i < j → j < count → slice_get us i ≡ Some u → slice_get us j ≡ Some v →
    IsIn k u.net.0 p c → IsIn k v.net.0 p d → c ≢ d → u.cycle + part_depth k p < v.cycle
