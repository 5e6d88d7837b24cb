-- What a hardened design masks.
use Rattle.std.specs.Prelude.{◌≡◌, ℕ, ◌+◌, ◌*◌, ◌<◌, ◌⊎◌, Bool, List, length, Some, slice_get}
use Rattle.tmr_base.specs.declared.copies.CopyNo.{CopyNo}
use Rattle.tmr_base.specs.declared.copies.CopyNo.TheVariants.{First, Second, Third}
use Rattle.tmr_base.specs.declared.ids.Upset.{Upset}
use Rattle.flat_net.specs.Net.{Net, net_count}
use Rattle.net_meaning.specs.Meaning.{value_at, IsTrace, IsFaultTrace, IsSchedule, IsFreeTrace, IsFreeFaultTrace, IsScheduleOf, AreRows, spread}
use Rattle.tmr_base.specs.Copies.{copy_number}
use Rattle.certificate.specs.Cert.{PlainCert, part_of, copy_of}
use Rattle.certificate.specs.Schedules.{Allowed, IsQuiet}
use Rattle.certificate.specs.Starts.{counted, spread_start}

-- P holds of two of the three copies
abbrev pub TwoOf : (CopyNo → Type 0) → Type 0
TwoOf P = (P First × P Second) ⊎ ((P First × P Third) ⊎ (P Second × P Third))

-- output j of h has the value b in cycle t
abbrev pub Gives : Net → List (List Bool) → ℕ → ℕ → Bool → Type 0
Gives h ft t j b = (y : ℕ) × (slice_get h.outputs j ≡ Some y) × (value_at ft t y ≡ b)

-- in cycle t the outputs are masked, and quiet partitions have recovered
pub record IsMasked (n h : Net) (k : PlainCert) (tr : List (List Bool)) (s : List Upset) (ft : List (List Bool)) (t : ℕ) : Type 0 where
  pub outputs : (i x : ℕ) → slice_get n.outputs i ≡ Some x → TwoOf (λ c. Gives h ft t (3 * i + copy_number c) (value_at tr t x))
  pub copies : (x : ℕ) → x < net_count n → IsQuiet s k (part_of k x) t → (c : CopyNo) → value_at ft t (copy_of k x c) ≡ value_at tr t x

-- each run over all rows and schedules
abbrev pub Masks : Net → Net → PlainCert → Type 0
Masks n h k =
    (ins tr : List (List Bool)) (s : List Upset) (ft : List (List Bool)) →
    AreRows n ins → IsTrace n ins tr → IsSchedule h (length ins) s → Allowed s k → IsFaultTrace h (spread ins) s ft →
    (t : ℕ) → t < length ins → IsMasked n h k tr s ft t

-- where the marked registers may begin with any value, the same in the three copies, and in version 2 inputs are struck too
abbrev pub FreeMasks : Net → List Bool → Net → List Bool → PlainCert → Type 0
FreeMasks n f h g k =
    (w : List Bool) (ins tr : List (List Bool)) (s : List Upset) (ft : List (List Bool)) →
    AreRows n ins → IsFreeTrace n (counted k f) w ins tr → IsScheduleOf k.version h (length ins) s → Allowed s k
    → IsFreeFaultTrace h (counted k g) (spread_start k w) (spread ins) s ft →
    (t : ℕ) → t < length ins → IsMasked n h k tr s ft t
