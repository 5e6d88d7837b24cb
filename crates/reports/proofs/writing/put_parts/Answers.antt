use Rattle.reports.proofs.LineLaws.{part_put}
use Rattle.reports.proofs.writing.put_parts.Goals as goal

pub loop-p-preserved : goal.loop-p-preserved
loop-p-preserved c = part_put c.args.n.now.net c.args.c.now c.args.counts.now.groups c.args.deeps.now c.loop-p.p c.deep_at.result.now c.loop-p.out.items c.put_part.new.out.items _ c.deep_at.ensures c.in_ok-put_part.ensures c.loop-p.invariant
