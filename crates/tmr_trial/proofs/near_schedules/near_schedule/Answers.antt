use Rattle.tmr_trial.proofs.NearLaws.{near_refused, near_low, near_high}
use Rattle.tmr_trial.proofs.near_schedules.near_schedule.Goals as goal

pub returns-clause-refused : goal.returns-clause-refused
returns-clause-refused c = near_refused c.args.c.now c.args.number c.args.n.now.net c.args.h.now.net c.args.cycles c.in_ok-s.s c.in_ok-s.ensures

pub returns-clause-low : goal.returns-clause-low
returns-clause-low c = near_low c.args.c.now c.args.number c.args.n.now.net c.args.h.now.net c.args.cycles c.in_ok-s.s c.in_ok-s.ensures

pub returns-clause-high : goal.returns-clause-high
returns-clause-high c = near_high c.args.c.now c.args.number c.args.n.now.net c.args.h.now.net c.args.cycles c.in_ok-s.s c.in_ok-s.ensures
