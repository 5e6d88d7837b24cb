use Rattle.std.proofs.Common.{◌∙◌, ap}
use Rattle.schedules.specs.Schedule.{PlainSchedule}
use Rattle.tmr_trial.proofs.NearLaws.{no_rows}
use Rattle.tmr_trial.proofs.near_schedules.draw_rows.Goals as goal

pub loop-t-init : goal.loop-t-init
loop-t-init c =
    no_rows c.args.number c.args.n.now.net c.args.h.now.net c.args.numbers.now.state c.new-s.result c.requires.state (ap (λ (s : PlainSchedule). s.inputs) c.new-s.ensures ∙ c.input_count.ensures.count)
    (ap (λ (s : PlainSchedule). s.rows) c.new-s.ensures) (ap (λ (s : PlainSchedule). s.starts) c.new-s.ensures) (ap (λ (s : PlainSchedule). s.upsets) c.new-s.ensures)
