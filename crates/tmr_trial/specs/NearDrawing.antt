-- A schedule of pairs that is being drawn. Private functions alone cite it.
use Rattle.std.specs.Prelude.{◌≡◌, ◌*◌, ℕ, ◌<◌, ◌≤◌, nat_lt, nat_le, [], length, map, All}
use Rattle.std.specs.List.{range_with_len, flat_map, list_all}
use Rattle.flat_net.specs.Net.{Net}
use Rattle.certificate.specs.Cert.{PlainCert}
use Rattle.schedules.specs.Schedule.{PlainSchedule}
use Rattle.tmr_trial.specs.NearSchedules.{pair_state, pairs_until, pair_upsets}
use Rattle.tmr_trial.specs.Schedules.{row_drawn, state_before}

-- the rows of the first t cycles are drawn, and no upset
pub record HasRows (number : ℕ) (n h : Net) (t state : ℕ) (s : PlainSchedule) : Type 0 where
  pub state_is : state ≡ state_before n h number t
  pub inputs : s.inputs ≡ length n.inputs
  pub starts : s.starts ≡ []
  pub rows : s.rows ≡ map (λ t. row_drawn (length n.inputs) (state_before n h number t)) (range_with_len 0 t)
  pub long : length s.rows ≡ t
  pub upsets : s.upsets ≡ []

-- the pairs that the first t cycles draw behind the rows are added, of which each has ended before cycle `next`
pub record HasPairs (number : ℕ) (n h : Net) (k : PlainCert) (cycles t state next : ℕ) (s : PlainSchedule) : Type 0 where
  pub state_is : state ≡ pair_state (state_before n h number cycles) t
  pub inputs : s.inputs ≡ length n.inputs
  pub starts : s.starts ≡ []
  pub rows : s.rows ≡ map (λ t. row_drawn (length n.inputs) (state_before n h number t)) (range_with_len 0 cycles)
  pub long : length s.rows ≡ cycles
  pub upsets : s.upsets ≡ flat_map pair_upsets (pairs_until h k cycles (state_before n h number cycles) t)
  pub ended : (m : ℕ) → list_all (λ q. nat_lt q.second.cycle m) (pairs_until h k cycles (state_before n h number cycles) t) ≡ nat_le next m
  pub earlier : All (λ u. u.cycle < next) s.upsets
  pub few : length s.upsets ≤ 2 * t
