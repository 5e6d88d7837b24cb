use Rattle.std.proofs.Common.{◌<◌, length, ap, arith}
use Rattle.std.proofs.lemmas.List.{length-map}
use Rattle.graph.proofs.RowLaws.{row_pushed}
use Rattle.graph.specs.Private.Packed.{row_items}
use Rattle.graph.proofs.readers.Readers.add.Goals as goal

pub returns : goal.returns
returns c =
    let within : c.args.x < length c.self.inside.rows.items = omega (arith, c.requires, ap length c.self.view_is, length-map c.self.inside.rows.items row_items) in
    rw (← c.self.view_is) (row_pushed row_items c.self.inside.rows.items c.args.x c.index_mut.result.now c.push.new.self c.args.y within c.index_mut.ensures.value c.in_ok-push.ensures.ok)
