use Rattle.std.proofs.Common.{◌+◌, ◌∙◌, arith}
use Rattle.std.proofs.lemmas.List.{take_all}
use Rattle.certifying.proofs.LabelLaws.{copies_more}
use Rattle.certifying.proofs.draft.copies_of.Goals as goal

pub loop-i-preserved : goal.loop-i-preserved
loop-i-preserved c =
    copies_more c.args.k.now c.loop-i.copies.items c.push.new.self.items c.copy.result c.copy-in-loop-i.result c.copy-in-loop-i-2.result c.loop-i.i (c.input_count-inputs.result + c.loop-i.i)
    c.loop-i.invariant (omega (arith, c.loop-i-test.true, c.nodes_of-i-end.ensures.count, c.requires.original_nodes, c.parts-parts.ensures.cert.copies_long)) c.in_ok-push.ensures.items
    (omega (arith, c.input_count-inputs.ensures.count, c.requires.original_inputs)) c.copy.ensures.copy c.copy-in-loop-i.ensures.copy c.copy-in-loop-i-2.ensures.copy

pub returns : goal.returns
returns c = c.loop-i.invariant ∙ take_all c.loop-i.i c.args.k.now.copies (omega (arith, c.loop-i-test.false, c.nodes_of-i-end.ensures.count, c.requires.original_nodes, c.parts-parts.ensures.cert.copies_long))
