use Rattle.tmr_trial.proofs.Cycles.{row_more, state_one_more}
use Rattle.tmr_trial.proofs.allowed_schedules.draw_row.Goals as goal

pub loop-i-preserved : goal.loop-i-preserved
loop-i-preserved c = record {
  row = row_more c.args.numbers.now.state c.loop-i.numbers.state c.loop-i.i c.draw-bit.result c.loop-i.row.items _ c.loop-i.invariant.state c.draw-bit.ensures.value c.loop-i.invariant.row c.in_ok-push.ensures.items;
  state = state_one_more c.args.numbers.now.state c.loop-i.numbers.state c.loop-i.i _ c.loop-i.invariant.state c.draw-bit.ensures.state;
}
