use Rattle.std.proofs.Common.{◌≤◌, arith}
use Rattle.tmr_outside.proofs.PieceLemmas.{Takes-then, take-part}
use Rattle.tmr_outside.proofs.pieces.hand_out.Goals as goal

pub loop-start-preserved : goal.loop-start-preserved
loop-start-preserved g c = record {
  within = omega arith;
  takes = let later : c.loop-start.start ≤ c.min-end.result = omega arith in
      rw (← take-part c.args.bytes.now c.loop-start.start c.min-end.result later) (Takes-then _ _ c.loop-start.invariant.takes c.take.ensures.appended c.take.ensures.room);
}
