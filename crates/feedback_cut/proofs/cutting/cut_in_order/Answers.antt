use Rattle.std.proofs.Common.{length, sym, ◌∙◌, ap, subst}
use Rattle.graph.specs.Search.{IsSearched}
use Rattle.feedback_cut.specs.Inner.{inner_rows}
use Rattle.feedback_cut.proofs.InnerLaws.{inner_long}
use Rattle.feedback_cut.proofs.CutLaws.{cut_meets, orders_uncut}
use Rattle.feedback_cut.proofs.cutting.cut_in_order.Goals as goal

pub search-requires : goal.search-requires
search-requires c = c.nodes_of-count.ensures.count ∙ sym (ap length c.in_ok-graph.ensures ∙ inner_long c.args.n.now.net c.args.parts.now)

pub returns-clause-cut : goal.returns-clause-cut
returns-clause-cut c =
    let s : IsSearched (inner_rows c.args.n.now.net c.args.parts.now) c.in_ok-searched.searched.order.items c.in_ok-searched.searched.cut = subst (λ g. IsSearched g c.in_ok-searched.searched.order.items c.in_ok-searched.searched.cut) c.in_ok-graph.ensures c.in_ok-searched.ensures in
    cut_meets c.args.n.now.net c.args.parts.now c.in_ok-searched.searched.order.items c.in_ok-searched.searched.cut c.nodes_of-count.ensures.design.valid s

pub returns-clause-order : goal.returns-clause-order
returns-clause-order c =
    let s : IsSearched (inner_rows c.args.n.now.net c.args.parts.now) c.in_ok-searched.searched.order.items c.in_ok-searched.searched.cut = subst (λ g. IsSearched g c.in_ok-searched.searched.order.items c.in_ok-searched.searched.cut) c.in_ok-graph.ensures c.in_ok-searched.ensures in
    orders_uncut c.args.n.now.net c.args.parts.now c.in_ok-searched.searched.order.items c.in_ok-searched.searched.cut c.nodes_of-count.ensures.design.valid s
