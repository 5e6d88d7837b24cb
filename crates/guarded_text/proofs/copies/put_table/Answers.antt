use Rattle.std.proofs.Common.{◌∙◌, refl}
use Rattle.flat_net.specs.Net.{node_of}
use Rattle.guarded_text.proofs.CopyPuts.{table_put}
use Rattle.guarded_text.proofs.copies.put_table.Goals as goal

pub returns : goal.returns
returns c =
    let n = c.args.n.now.net in
    table_put n c.args.byte c.args.x.0 (node_of n c.args.x.0) c.bytes.result.now c.args.rows.now c.args.out.now.items c.extend_from_slice.new.self.items c.put_pins.new.out.items c.put_tailed.new.out.items c.push.new.self.items c.extend_from_slice-2.new.self.items refl c.requires.table c.requires.rows (c.bytes.ensures.bytes ∙ c.name.ensures)
    c.in_ok-extend_from_slice.ensures.items c.in_ok-put_pins.ensures c.in_ok-put_tailed.ensures c.in_ok-push.ensures.items c.in_ok-extend_from_slice-2.ensures.items
