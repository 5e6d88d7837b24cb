use Rattle.std.proofs.Common.{◌∙◌, arith}
use Rattle.std.proofs.lemmas.List.{take_all}
use Rattle.triplicate.specs.Blocks.{hardened_inputs}
use Rattle.triplicate.proofs.Tripled.{length-hardened_inputs}
use Rattle.hardened_pair.proofs.naming.input_names.Goals as goal

pub returns : goal.returns
returns c = c.loop-i.invariant ∙ take_all _ (hardened_inputs c.args.n.now.net) (omega (arith, length-hardened_inputs c.args.n.now.net, c.loop-i-test.false, c.input_count-count.ensures.count))
