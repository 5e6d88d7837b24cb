use Rattle.std.proofs.Common.{arith}
use Rattle.exposure.proofs.LineLaws.{part_put}
use Rattle.exposure.proofs.lines.put_parts.Goals as goal

pub loop-p-preserved : goal.loop-p-preserved
loop-p-preserved c = part_put c.args.c.now c.loop-p.p c.loop-p.out.items c.put_part.new.out.items _ (omega (arith, c.loop-p-test.true, c.parts-p-end.ensures.count)) c.in_ok-put_part.ensures c.loop-p.invariant
