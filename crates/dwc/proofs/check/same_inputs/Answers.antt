use Rattle.std.proofs.Common.{[], arith}
use Rattle.std.proofs.lemmas.List.{ext_get_or}
use Rattle.dwc.proofs.SameDesign.{both}
use Rattle.dwc.proofs.check.same_inputs.Goals as goal

pub returns : goal.returns
returns c = both (ext_get_or [] c.args.a.now.net.inputs c.args.b.now.net.inputs c.loop-x.invariant.long (λ i h. c.loop-x.invariant.same i (omega (arith, h, c.loop-x-test.false, c.input_count-x-end.ensures.count))))
