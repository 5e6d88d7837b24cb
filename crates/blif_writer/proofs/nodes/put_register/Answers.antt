use Rattle.std.proofs.Common.{◌∙◌, refl}
use Rattle.flat_net.specs.Net.{node_of}
use Rattle.blif_writer.proofs.NodeLines.{register_put}
use Rattle.blif_writer.proofs.nodes.put_register.Goals as goal

pub returns : goal.returns
returns c =
    let n = c.args.net.now.net in
    register_put n c.args.free c.args.x.0 (node_of n c.args.x.0) c.init.result c.bytes.result.now c.args.out.now.items c.extend_from_slice.new.self.items c.put_pins.new.out.items c.put_word.new.out.items c.put_control.new.out.items c.put_start.new.out.items c.push.new.self.items refl c.init.ensures (c.bytes.ensures.bytes ∙ c.name.ensures)
    c.in_ok-extend_from_slice.ensures.items c.in_ok-put_pins.ensures c.in_ok-put_word.ensures c.in_ok-put_control.ensures c.in_ok-put_start.ensures c.in_ok-push.ensures.items
