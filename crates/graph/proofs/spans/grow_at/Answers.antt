use Rattle.std.proofs.Common.{length, map, refl, arith}
use Rattle.graph.specs.Private.Packed.{widened}
use Rattle.graph.proofs.Widths.{grown_front, grown_back}
use Rattle.graph.proofs.spans.grow_at.Goals as goal

pub returns-then-x-narrow : goal.returns-then-x-narrow
returns-then-x-narrow c = grown_front c.args.narrow.now c.args.wide.now c.args.x (map widened c.grow_narrow.new.spans) (omega arith) c.grow_narrow.ensures

pub returns-else-x-narrow : goal.returns-else-x-narrow
returns-else-x-narrow c = grown_back c.args.narrow.now c.args.wide.now c.args.x (length c.args.narrow.now) c.grow_wide.new.spans refl (omega arith) c.grow_wide.ensures
