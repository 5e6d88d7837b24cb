-- The last upset of each partition. Private functions alone cite it.
use Rattle.std.specs.Prelude.{◌≡◌, ℕ, ◌+◌, ◌≤◌, Bool, false, not, ◌&&◌, nat_lt, nat_eq, List, length, slice_index_or, Option, Some, None, Contains}
use Rattle.tmr_base.specs.declared.copies.CopyNo.{CopyNo}
use Rattle.tmr_base.specs.declared.ids.Upset.{Upset}
use Rattle.tmr_base.specs.Copies.{copy_number}
use Rattle.certificate.specs.Cert.{PlainCert}
use Rattle.certificate.specs.Schedules.{IsIn}
use Rattle.tmr_trial.specs.declared.strikes.Strike.{Strike}

-- the last upset of partition p, if there was one
abbrev pub strike_at : List (Option Strike) → ℕ → Option Strike
strike_at strikes p = slice_index_or strikes p None

-- the last upset was of another copy than c, and no more than the depth before cycle t
abbrev pub is_near : Option Strike → CopyNo → ℕ → ℕ → Bool
is_near None c t depth = false
is_near (Some strike) c t depth = not (nat_eq (copy_number strike.copy) (copy_number c)) && not (nat_lt (strike.cycle + depth) t)

-- some upset of partition p was this one
pub record IsStrike (k : PlainCert) (us : List Upset) (p : ℕ) (strike : Strike) : Type 0 where
  pub upset : Upset
  pub there : Contains us upset
  pub is_in : IsIn k upset.net.0 (Some p) strike.copy
  pub cycle : upset.cycle ≡ strike.cycle

-- no upset of partition p is later than its last one
pub record IsNoLater (strikes : List (Option Strike)) (p : ℕ) (u : Upset) : Type 0 where
  pub strike : Strike
  pub last : strike_at strikes p ≡ Some strike
  pub no_later : u.cycle ≤ strike.cycle

pub record AreStrikes (k : PlainCert) (us : List Upset) (strikes : List (Option Strike)) : Type 0 where
  pub long : length strikes ≡ length k.depth
  pub some : (p : ℕ) (strike : Strike) → strike_at strikes p ≡ Some strike → IsStrike k us p strike
  pub last : (u : Upset) (p : ℕ) (c : CopyNo) → Contains us u → IsIn k u.net.0 (Some p) c → IsNoLater strikes p u
