use Rattle.tmr_trial.specs.NearDrawing.{HasPairs}
use Rattle.tmr_trial.proofs.near_schedules.draw_near.Given as goal

abbrev pub invariant-loop-t : goal.invariant-loop-t
invariant-loop-t l = HasPairs l.number l.n.net l.h.net l.c l.cycles l.t l.numbers.state l.next l.s
