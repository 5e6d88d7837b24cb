use Rattle.std.proofs.Common.{◌∙◌, arith}
use Rattle.std.proofs.lemmas.List.{take_all}
use Rattle.dwc.specs.Guard.{guard_net}
use Rattle.dwc.proofs.Nodes.{length-inputs}
use Rattle.dwc.proofs.names.input_names.Goals as goal

pub returns : goal.returns
returns c = c.loop-i.invariant ∙ take_all _ (guard_net c.args.n.now.net).inputs (omega (arith, length-inputs c.args.n.now.net, c.loop-i-test.false, c.input_count-count.ensures.count))
