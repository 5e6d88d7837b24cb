use Rattle.std.proofs.Common.{refl}
use Rattle.aag_text.proofs.Latches.{outputs_more}
use Rattle.aag_text.proofs.nets.outputs_of.Goals as goal

pub loop-k-preserved : goal.loop-k-preserved
loop-k-preserved c = outputs_more c.args.literals.now c.args.n.now.net.outputs c.loop-k.k c.output.result.0 c.loop-k.outputs.items c.push.new.self.items _ c.output.ensures.output refl c.loop-k.invariant c.in_ok-push.ensures.items
