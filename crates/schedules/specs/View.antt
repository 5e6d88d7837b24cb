-- What a schedule shows of its fields.
use Rattle.std.specs.Prelude.{◌≡◌, ◌*◌, length}
use Rattle.table_cover.specs.Rows.{cut_rows}
use Rattle.schedules.specs.declared.schedule.Schedule.TheInside.{Inside}
use Rattle.schedules.specs.Schedule.{PlainSchedule, IsPlainSchedule}

abbrev pub schedule_of : Inside → PlainSchedule
schedule_of s = record { inputs = s.inputs; rows = cut_rows s.inputs s.cycles s.bits.items; starts = s.starts.items; upsets = s.upsets.items }

-- the rows stand one after the other
pub record IsKept (s : Inside) : Type 0 where
  pub long : length s.bits.items ≡ s.cycles * s.inputs
  pub plain : IsPlainSchedule (schedule_of s)
