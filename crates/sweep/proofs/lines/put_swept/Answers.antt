use Rattle.sweep.proofs.SweepLaws.{line_put}
use Rattle.sweep.proofs.lines.put_swept.Goals as goal

pub loop-i-preserved : goal.loop-i-preserved
loop-i-preserved c = line_put c.args.n.now.net c.args.lines.now c.loop-i.i c.line_at.result.now c.loop-i.out.items c.put_size.new.out.items _ c.line_at.ensures c.in_ok-put_size.ensures c.loop-i.invariant
