use Rattle.graph.proofs.Widths.{narrow_grown}
use Rattle.graph.proofs.spans.grow_narrow.Goals as goal

pub returns : goal.returns
returns c = narrow_grown c.args.spans.now c.args.x c.requires.within
