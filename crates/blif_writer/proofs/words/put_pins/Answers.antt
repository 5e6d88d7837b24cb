use Rattle.std.proofs.Common.{◌∙◌, ◌++◌, arith}
use Rattle.flat_net.specs.Net.{node_of, pins_at}
use Rattle.blif_writer.specs.Text.{net_words}
use Rattle.blif_writer.specs.Left.{spaced}
use Rattle.blif_writer.proofs.Putting.{net_put}
use Rattle.blif_writer.proofs.words.put_pins.Goals as goal

pub loop-j-preserved : goal.loop-j-preserved
loop-j-preserved c =
    let n = c.args.net.now.net in
    let pins = pins_at (node_of n c.args.x.0) in
    net_put n pins c.loop-j.j c.pin.result.0 c.loop-j.out.items c.put_word.new.out.items (c.args.out.now.items ++ spaced (net_words n pins)) c.bytes.result.now (omega arith) c.pin.ensures.value (c.bytes.ensures.bytes ∙ c.name.ensures) c.in_ok-put_word.ensures c.loop-j.invariant
