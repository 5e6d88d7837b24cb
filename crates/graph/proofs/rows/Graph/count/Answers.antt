use Rattle.std.proofs.Common.{ap, length, arith}
use Rattle.graph.proofs.EndLaws.{length-rows_from}
use Rattle.graph.proofs.rows.Graph.count.Goals as goal

pub returns : goal.returns
returns c =
    let rows = length-rows_from 0 c.self.inside.ends c.self.inside.reads.items in
    let view = ap length c.self.view_is in
    let count = c.len.ensures in
    omega arith
