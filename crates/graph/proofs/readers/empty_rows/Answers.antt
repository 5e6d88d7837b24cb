use Rattle.graph.proofs.RowLaws.{row_added}
use Rattle.graph.specs.Private.Packed.{row_items}
use Rattle.graph.proofs.readers.empty_rows.Goals as goal

pub loop-made-preserved : goal.loop-made-preserved
loop-made-preserved c =
    row_added row_items c.loop-made.rows.items c.push.new.self.items c.new.result c.loop-made.made c.loop-made.invariant c.new.ensures.items c.in_ok-push.ensures.items
