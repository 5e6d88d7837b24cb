use Rattle.tmr_trial.specs.Drawing.{HasDrawn}
use Rattle.tmr_trial.proofs.allowed_schedules.schedule.Given as goal

abbrev pub invariant-loop-t : goal.invariant-loop-t
invariant-loop-t l = HasDrawn l.number l.n.net l.h.net l.c l.t l.numbers.state l.strikes.items l.s
