use Rattle.tmr_trial.specs.NearDrawing.{HasRows}
use Rattle.tmr_trial.proofs.near_schedules.draw_rows.Given as goal

abbrev pub invariant-loop-t : goal.invariant-loop-t
invariant-loop-t l = HasRows l.number l.n.net l.h.net l.t l.numbers.state l.s
