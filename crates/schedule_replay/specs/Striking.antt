-- Which upsets of a schedule were taken, and the last ones of each partition. Private functions alone cite it.
use Rattle.std.specs.Prelude.{◌≡◌, ℕ, ◌+◌, ◌<◌, ◌≤◌, true, List, length, slice_get, slice_index, slice_set, Option, Some, None}
use Rattle.tmr_base.specs.declared.ids.Upset.{Upset}
use Rattle.certificate.specs.Cert.{PlainCert}
use Rattle.schedule_replay.specs.Outcome.{strikes}

-- the first upsets are those before cycle t
pub record IsTaken (us : List Upset) (t count : ℕ) : Type 0 where
  pub before : (j : ℕ) (u : Upset) → j < count → slice_get us j ≡ Some u → u.cycle < t
  pub after : (j : ℕ) (u : Upset) → count ≤ j → slice_get us j ≡ Some u → t ≤ u.cycle

-- some of the first upsets strikes the partition, and `last` is the cycle behind it
pub record IsLastStrike (k : PlainCert) (us : List Upset) (count p last : ℕ) : Type 0 where
  pub place : ℕ
  pub upset : Upset
  pub within : place < count
  pub there : slice_get us place ≡ Some upset
  pub strike : strikes k p upset ≡ true
  pub cycle : upset.cycle + 1 ≡ last

-- the cycle behind the last of the first upsets in each partition, or 0
pub record AreLatest (k : PlainCert) (us : List Upset) (count : ℕ) (lasts : List ℕ) : Type 0 where
  pub latest : (j : ℕ) (u : Upset) (p : ℕ) → j < count → slice_get us j ≡ Some u → strikes k p u ≡ true → u.cycle < slice_index lasts p
  pub reached : (p : ℕ) → p < length k.depth → 0 < slice_index lasts p → IsLastStrike k us count p (slice_index lasts p)

-- the partition that was struck has this as the cycle behind its last upset
abbrev pub with_strike : Option ℕ → ℕ → List ℕ → List ℕ
with_strike None last lasts = lasts
with_strike (Some p) last lasts = slice_set lasts p last

-- the first upsets are in cycles up to t
abbrev pub IsUpTo : List Upset → ℕ → ℕ → Type 0
IsUpTo us t count = (j : ℕ) (u : Upset) → j < count → slice_get us j ≡ Some u → u.cycle ≤ t
