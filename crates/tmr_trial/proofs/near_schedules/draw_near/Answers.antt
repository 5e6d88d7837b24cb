use Rattle.std.proofs.Common.{arith}
use Rattle.tmr_trial.proofs.NearLaws.{near_none, near_is, no_pairs}
use Rattle.tmr_trial.proofs.near_schedules.draw_near.Goals as goal

pub returns-then-node_count-eq0 : goal.returns-then-node_count-eq0
returns-then-node_count-eq0 c =
    near_none c.args.number c.args.n.now.net c.args.h.now.net c.args.c.now c.args.cycles c.draw_rows.new.numbers.state c.in_ok-s.s c.in_ok-s.ensures (omega (arith, c.requires.fits.hardened_nodes, c.node_count.ensures, c.if-node_count-eq0.true))

pub loop-t-init : goal.loop-t-init
loop-t-init c = no_pairs c.args.number c.args.n.now.net c.args.h.now.net c.args.c.now c.args.cycles c.draw_rows.new.numbers.state c.in_ok-s.s c.in_ok-s.ensures

pub returns : goal.returns
returns c =
    near_is c.args.number c.args.n.now.net c.args.h.now.net c.args.c.now c.args.cycles c.loop-t.t c.loop-t.numbers.state c.loop-t.next c.loop-t.s c.loop-t.invariant (omega (arith, c.loop-t-test.false, c.loop-t.auto.t-end))
