use Rattle.std.proofs.Common.{◌∙◌, ◌++◌, arith}
use Rattle.flat_net.specs.Net.{node_of, pins_at}
use Rattle.blif_writer.specs.Left.{spaced}
use Rattle.guarded_text.specs.Private.Lines.{all_tailed}
use Rattle.guarded_text.proofs.CopyPuts.{pin_put}
use Rattle.guarded_text.proofs.copies.put_pins.Goals as goal

pub loop-j-preserved : goal.loop-j-preserved
loop-j-preserved c =
    let n = c.args.n.now.net in
    let pins = pins_at (node_of n c.args.x.0) in
    pin_put n c.args.byte pins c.loop-j.j c.pin.result.0 c.bytes.result.now c.loop-j.out.items c.put_tailed.new.out.items (c.args.out.now.items ++ spaced (all_tailed n c.args.byte pins)) (omega arith) c.pin.ensures.value (c.bytes.ensures.bytes ∙ c.name.ensures) c.in_ok-put_tailed.ensures c.loop-j.invariant
