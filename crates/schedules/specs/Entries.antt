-- What a schedule has of what its file lists.
use Rattle.std.specs.Prelude.{◌≡◌, ℕ, List, length, Contains, ◌↔◌}
use Rattle.tmr_base.specs.declared.ids.Upset.{Upset}
use Rattle.net_meaning.specs.Meaning.{upset_at}
use Rattle.schedules.specs.Document.{Listed}
use Rattle.schedules.specs.Schedule.{PlainSchedule}

-- the schedule has the rows, the start values and the upsets that the file lists, and nothing else
pub record HasWhatIsListed (inputs : ℕ) (l : Listed) (s : PlainSchedule) : Type 0 where
  pub inputs_are : s.inputs ≡ inputs
  pub rows : s.rows ≡ l.rows
  pub starts : s.starts ≡ l.starts
  pub count : length s.upsets ≡ length l.upsets
  pub members : (u : Upset) → Contains s.upsets u ↔ Contains l.upsets u
  pub upsets : (cycle net : ℕ) → upset_at s.upsets cycle net ≡ upset_at l.upsets cycle net
