use Rattle.std.proofs.Common.{◌∙◌}
use Rattle.aag_text.proofs.Firsts.{inputs_more}
use Rattle.aag_text.proofs.nets.input_literals.Goals as goal

pub loop-i-preserved : goal.loop-i-preserved
loop-i-preserved c = c.in_ok-push.ensures.items ∙ inputs_more c.loop-i.i c.loop-i.literals.items c.loop-i.invariant
