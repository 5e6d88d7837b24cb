use Rattle.std.proofs.Common.{◌+◌, ◌∙◌, arith}
use Rattle.tmr_outside.proofs.PieceLemmas.{MovesBytes-then, ReadsUpTo-after}
use Rattle.tmr_outside.proofs.reading.hand_out_within.Goals as goal

pub loop-left-preserved : goal.loop-left-preserved
loop-left-preserved g c = record {
  count = c.loop-left.invariant.count + c.in-Ok.count;
  counted = omega (arith, c.in-Ok.ensures.within, c.loop-left.invariant.counted);
  handed = MovesBytes-then c.loop-left.invariant.count c.in-Ok.count c.loop-left.invariant.handed c.in-Ok.ensures.handed;
  failed = c.in-Ok.ensures.failures.ok.0 ∙ c.loop-left.invariant.failed;
  starved = c.in-Ok.ensures.failures.ok.1 ∙ c.loop-left.invariant.starved;
}

pub returns-in-Err-clause-read : goal.returns-in-Err-clause-read
returns-in-Err-clause-read g c = ReadsUpTo-after c.loop-left.invariant.count (c.loop-left.left + 1) (c.args.limit + 1) c.loop-left.invariant.handed c.in-Err.ensures.read (omega (arith, c.loop-left.invariant.counted))

pub returns-in-Err-hand_out_next-clause-read : goal.returns-in-Err-hand_out_next-clause-read
returns-in-Err-hand_out_next-clause-read g c = ReadsUpTo-after c.loop-left.invariant.count (0 + 1) (c.args.limit + 1) c.loop-left.invariant.handed c.in-Err-hand_out_next.ensures.read (omega (arith, c.loop-left.invariant.counted))
