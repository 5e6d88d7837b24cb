-- A schedule that was read.
use Rattle.std.specs.Prelude.{ℕ, ◌<◌, ◌≤◌, Ok, Err, Result, length}
use Rattle.flat_net.specs.Net.{Net, net_count}
use Rattle.schedules.specs.Document.{Listed}
use Rattle.schedules.specs.Entries.{HasWhatIsListed}
use Rattle.schedules.specs.declared.fault.ScheduleFault.{ScheduleFault}
use Rattle.schedules.specs.Schedule.{PlainSchedule}

-- a node of the design
abbrev pub IsNodeOf : Net → ℕ → Type 0
IsNodeOf h x = (length h.inputs ≤ x) × (x < net_count h)

-- reading gives what the schedule has
abbrev pub IsReadAs : ℕ → Result Listed ScheduleFault → PlainSchedule → Type 0
IsReadAs inputs (Ok l) s = HasWhatIsListed inputs l s
IsReadAs inputs (Err f) s = ⊥
