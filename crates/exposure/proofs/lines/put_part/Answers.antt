use Rattle.std.proofs.Common.{◌∙◌, arith}
use Rattle.std.proofs.lemmas.List.{get_or_default}
use Rattle.exposure.proofs.LineLaws.{counts_put}
use Rattle.exposure.proofs.lines.put_part.Goals as goal

pub returns : goal.returns
returns c =
    counts_put c.args.c.now c.args.p c.index-first.result.now c.index-second.result.now c.index-third.result.now c.depth.result c.args.out.now.items c.put_counts.new.out.items c.has_nodes.result
    (c.index-first.ensures ∙ (get_or_default c.args.counts.now.first.items c.args.p c.index-first.result.now 0 (omega (arith, c.requires.part, c.requires.counts.first.long)) ∙ c.requires.counts.first.each c.args.p c.requires.part))
    (c.index-second.ensures ∙ (get_or_default c.args.counts.now.second.items c.args.p c.index-second.result.now 0 (omega (arith, c.requires.part, c.requires.counts.second.long)) ∙ c.requires.counts.second.each c.args.p c.requires.part))
    (c.index-third.ensures ∙ (get_or_default c.args.counts.now.third.items c.args.p c.index-third.result.now 0 (omega (arith, c.requires.part, c.requires.counts.third.long)) ∙ c.requires.counts.third.each c.args.p c.requires.part))
    c.depth.ensures c.has_nodes.ensures c.if-not-has_nodes.false c.in_ok-put_counts.ensures
