use Rattle.std.proofs.Common.{sym, subst}
use Rattle.std.specs.Prelude.{◌-◌, length, slice_get, IfSome}
use Rattle.schedules.specs.Schedule.{PlainSchedule, IsBefore}
use Rattle.tmr_trial.proofs.NearLaws.{order_more, pushed_two}
use Rattle.tmr_trial.proofs.near_schedules.push_pair.Goals as goal

pub push_upset-requires-2-clause-order : goal.push_upset-requires-2-clause-order
push_upset-requires-2-clause-order c =
    subst (λ (s : PlainSchedule). IfSome (slice_get s.upsets (length s.upsets - 1)) (λ v. IsBefore v c.in_order.result.1)) (sym c.in_ok-push_upset.ensures.ok)
    (order_more c.args.s.now.upsets c.in_order.result.0 c.in_order.result.1 c.in_order.ensures.before)

pub returns : goal.returns
returns c = pushed_two c.args.q c.in_order.result.0 c.in_order.result.1 c.args.s.now c.push_upset.new.self c.push_upset-2.new.self c.in_order.ensures.order c.in_ok-push_upset.ensures.ok c.in_ok-push_upset-2.ensures.ok
