use Rattle.std.proofs.Common.{◌≡◌, length, ap, ◌∙◌, arith}
use Rattle.tmr_base.specs.declared.copies.CopyNo.{CopyNo}
use Rattle.tmr_trial.specs.NearSchedules.{nodes_among}
use Rattle.tmr_trial.proofs.MemberLaws.{few_listed}
use Rattle.tmr_trial.proofs.PairLaws.{pair_is}
use Rattle.tmr_trial.proofs.near_pairs.draw_pair.Goals as goal

pub draw_node-node-requires : goal.draw_node-node-requires
draw_node-node-requires c =
    let k = c.args.c.now in
    let p = c.domain-copy.result.0.0 in
    let listed : c.row-nodes.result.now ≡ nodes_among k (length k.roles) p c.other_copy.result = c.row-nodes.ensures ∙ c.requires.members.listed p c.other_copy.result c.domain-copy.ensures.range in
    omega (arith, ap length listed, few_listed k (length k.roles) p c.other_copy.result, c.parts-parts.ensures.cert.few_hardened)

pub returns-clause-pair : goal.returns-clause-pair
returns-clause-pair c =
    let k = c.args.c.now in
    let p = c.domain-copy.result.0.0 in
    let drawn = c.draw_first-higher.ensures in
    pair_is c.args.h.now.net k c.args.cycles c.args.t c.args.numbers.now.state c.draw_first-higher.result.0 c.draw_first-higher.result.1 c.draw_first-higher.result.2 p c.domain-copy.result.1 c.depth.result
    c.draw_first-higher.new.numbers.state c.row-nodes.result.now _ c.pair_with.result drawn.first drawn.higher drawn.value drawn.state c.domain-copy.ensures.is_in c.depth.ensures
    (c.row-nodes.ensures ∙ (c.requires.members.listed p c.other_copy.result c.domain-copy.ensures.range ∙ ap (λ (d : CopyNo). nodes_among k (length k.roles) p d) c.other_copy.ensures))
    c.draw_node-node.ensures.node c.pair_with.ensures
