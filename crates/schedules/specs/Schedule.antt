-- A schedule: a row of inputs for each cycle, start values, and upsets.
use Rattle.std.specs.Prelude.{◌≡◌, ℕ, ◌<◌, ◌≤◌, ◌⊎◌, Bool, List, length, All, slice_get, Some}
use Rattle.tmr_base.specs.declared.ids.Upset.{Upset}

-- how many inputs a row has, a row for each cycle, the start values of marked registers in order, and the upsets
pub record PlainSchedule : Type 0 where
  pub inputs : ℕ
  pub rows : List (List Bool)
  pub starts : List Bool
  pub upsets : List Upset

-- u comes before v: in an earlier cycle, or in the same one at a lower net
abbrev pub IsBefore : Upset → Upset → Type 0
IsBefore u v = (u.cycle < v.cycle) ⊎ ((u.cycle ≡ v.cycle) × (u.net.0 < v.net.0))

-- what each schedule keeps
pub record IsPlainSchedule (s : PlainSchedule) : Type 0 where
  pub wide : All (λ row. length row ≡ s.inputs) s.rows
  pub few_rows : length s.rows ≤ 1048576
  pub few_starts : length s.starts ≤ 4294967295
  pub few_upsets : length s.upsets ≤ 1048576
  pub in_range : All (λ u. u.cycle < length s.rows) s.upsets
  pub ascending : (j k : ℕ) (u v : Upset) → j < k → slice_get s.upsets j ≡ Some u → slice_get s.upsets k ≡ Some v → IsBefore u v
