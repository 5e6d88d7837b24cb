use Rattle.std.proofs.Common.{Bool, List, [], ◌∷◌, ◌++◌, map, sym, ap, ◌∙◌, arith}
use Rattle.std.specs.List.{range_with_len}
use Rattle.std.proofs.lemmas.List.FromFn.{map-range_with_len_more}
use Rattle.partition_graph.specs.Private.Leading.{has_lead}
use Rattle.partition_graph.proofs.groups.agreeing.Goals as goal

pub loop-x-preserved : goal.loop-x-preserved
loop-x-preserved c =
    let f = has_lead c.args.n.now.net c.args.c.now c.args.leads.now in
    c.in_ok-push.ensures.items ∙ (ap (λ (bs : List Bool). bs ++ c.has_lead.result ∷ []) c.loop-x.invariant ∙ (ap (λ (b : Bool). map (has_lead c.args.n.now.net c.args.c.now c.args.leads.now) (range_with_len 0 c.loop-x.x) ++ b ∷ []) c.has_lead.ensures
    ∙ sym (map-range_with_len_more (has_lead c.args.n.now.net c.args.c.now c.args.leads.now) 0 c.loop-x.x c.loop-x.x (omega arith))))
