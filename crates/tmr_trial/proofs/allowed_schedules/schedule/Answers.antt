use Rattle.std.proofs.Common.{◌∙◌, ap}
use Rattle.schedules.specs.Schedule.{PlainSchedule}
use Rattle.tmr_trial.proofs.Cycles.{drawn_none}
use Rattle.tmr_trial.proofs.allowed_schedules.schedule.Goals as goal

pub loop-t-init : goal.loop-t-init
loop-t-init c =
    drawn_none c.args.number c.args.n.now.net c.args.h.now.net c.args.c.now c.new-numbers.result.state c.in_ok-strikes.strikes.items c.new-s.result c.new-numbers.ensures (ap (λ (s : PlainSchedule). s.inputs) c.new-s.ensures ∙ c.input_count.ensures.count) (ap (λ (s : PlainSchedule). s.rows) c.new-s.ensures) (ap (λ (s : PlainSchedule). s.starts) c.new-s.ensures) (ap (λ (s : PlainSchedule). s.upsets) c.new-s.ensures) c.in_ok-strikes.ensures
