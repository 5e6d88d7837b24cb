use Rattle.std.proofs.Common.{length, take, ◌-◌, ◌≤◌}
use Rattle.tmr_outside.specs.Pieces.{Takes}
use Rattle.tmr_outside.proofs.pieces.hand_out.Given as goal

abbrev pub invariant-loop-start : goal.invariant-loop-start
invariant-loop-start g l = record {
  within : l.start ≤ length l.bytes;
  takes : Takes (g.T.Taker.stands l.initial.to) (g.T.Taker.stands l.to) (g.T.Taker.room l.initial.to) (g.T.Taker.room l.to) (take l.start l.bytes);
}

abbrev pub decreases-loop-start : goal.decreases-loop-start
decreases-loop-start g l = length l.bytes - l.start
