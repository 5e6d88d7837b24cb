use Rattle.std.proofs.Common.{◌∙◌, refl}
use Rattle.flat_net.specs.Net.{node_of}
use Rattle.guarded_text.proofs.CopyPuts.{register_put}
use Rattle.guarded_text.proofs.copies.put_register.Goals as goal

pub returns : goal.returns
returns c =
    let n = c.args.n.now.net in
    register_put n c.args.byte c.args.x.0 (node_of n c.args.x.0) c.init.result c.bytes.result.now c.args.control.now c.args.out.now.items c.extend_from_slice.new.self.items c.put_pins.new.out.items c.put_tailed.new.out.items c.extend_from_slice-2.new.self.items c.put_start.new.out.items c.push.new.self.items refl c.init.ensures (c.bytes.ensures.bytes ∙ c.name.ensures) c.requires.control
    c.in_ok-extend_from_slice.ensures.items c.in_ok-put_pins.ensures c.in_ok-put_tailed.ensures c.in_ok-extend_from_slice-2.ensures.items c.in_ok-put_start.ensures c.in_ok-push.ensures.items
