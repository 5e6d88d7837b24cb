use Rattle.std.proofs.Common.{◌∙◌, ◌++◌, arith}
use Rattle.blif_writer.specs.Text.{net_words}
use Rattle.blif_writer.specs.Left.{spaced}
use Rattle.blif_writer.proofs.Putting.{net_put, there}
use Rattle.blif_writer.proofs.words.put_outputs.Goals as goal

pub loop-k-preserved : goal.loop-k-preserved
loop-k-preserved c =
    let n = c.args.net.now.net in
    net_put n n.outputs c.loop-k.k c.output.result.0 c.loop-k.out.items c.put_word.new.out.items (c.args.out.now.items ++ spaced (net_words n n.outputs)) c.bytes.result.now (omega arith) (there n.outputs c.loop-k.k c.output.result.0 c.output.ensures.output) (c.bytes.ensures.bytes ∙ c.name.ensures) c.in_ok-put_word.ensures c.loop-k.invariant
