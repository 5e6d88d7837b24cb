use Rattle.std.proofs.Common.{◌<◌, ◌-◌, length, slice_get, get_or, sym, subst, false}
use Rattle.std.specs.Prelude.{IfSome}
use Rattle.schedules.specs.Schedule.{PlainSchedule, IsBefore}
use Rattle.schedules.specs.Private.Entries.{upset_of_entry}
use Rattle.schedules.proofs.Places.{cycle_in_range, entry_in_order}
use Rattle.schedules.proofs.reading.push_upsets.Goals as goal

pub push_upset-requires-clause-order : goal.push_upset-requires-clause-order
push_upset-requires-clause-order c =
    subst (λ (s : PlainSchedule). IfSome (slice_get s.upsets (length s.upsets - 1)) (λ v. IsBefore v (upset_of_entry (get_or c.args.entries.now c.loop-j.j ((0, 0), false))))) (sym c.loop-j.invariant)
    (entry_in_order c.args.entries.now c.loop-j.j ((0, 0), false) c.requires.ordered c.loop-j-test.true)

pub push_upset-requires-clause-range : goal.push_upset-requires-clause-range
push_upset-requires-clause-range c =
    subst (λ (s : PlainSchedule). (get_or c.args.entries.now c.loop-j.j ((0, 0), false)).0.0 < length s.rows) (sym c.loop-j.invariant)
    (cycle_in_range c.args.entries.now c.loop-j.j (length c.args.s.now.rows) ((0, 0), false) c.requires.range c.loop-j-test.true)
