use Rattle.std.proofs.Common.{◌<◌, ◌-◌, length, slice_get, sym, subst}
use Rattle.std.specs.Prelude.{IfSome, is_ok}
use Rattle.schedules.specs.Schedule.{PlainSchedule, IsBefore}
use Rattle.schedules.specs.View.{schedule_of}
use Rattle.schedules.proofs.Kept.{upset_more, pushed}
use Rattle.schedules.proofs.schedule.Schedule.push_upset.Goals as goal

pub invariant_of-self : goal.invariant_of-self
invariant_of-self c =
    let s : PlainSchedule = schedule_of c.self.inside in
    let order = subst (λ (s : PlainSchedule). IfSome (slice_get s.upsets (length s.upsets - 1)) (λ v. IsBefore v c.args.u)) (sym c.self.view_is) c.requires.order in
    let range = subst (λ (s : PlainSchedule). c.args.u.cycle < length s.rows) (sym c.self.view_is) c.requires.range in
    let room = subst (λ (s : PlainSchedule). length s.upsets < 1048576) (sym c.self.view_is) c.requires.room in
    record {
      long = c.self.invariant.long;
      plain = pushed (is_ok c.push.result) s c.args.u c.push.new.self.items c.push.ensures.items c.self.invariant.plain (upset_more s c.args.u c.self.invariant.plain order range room);
    }
