use Rattle.std.proofs.Common.{◌<◌, ap, length, arith}
use Rattle.graph.proofs.EndLaws.{length-rows_from}
use Rattle.graph.proofs.rows.Graph.row.Goals as goal

pub row_at-requires : goal.row_at-requires
row_at-requires c =
    let rows = length-rows_from 0 c.self.inside.ends c.self.inside.reads.items in
    let view = ap length c.self.view_is in
    let within : c.args.x < length c.self.inside.ends = (let r = c.requires in omega arith) in
    rw c.deref.ensures.value (record { ends = c.self.invariant; within = within })
