use Rattle.std.proofs.Common.{length, sym, ◌∙◌, ap, subst}
use Rattle.graph.specs.Search.{IsSearched}
use Rattle.feedback_cut.specs.Inner.{inner_rows}
use Rattle.feedback_cut.specs.Private.SelfReads.{self_row, self_rows}
use Rattle.feedback_cut.proofs.InnerLaws.{inner_long}
use Rattle.feedback_cut.proofs.SelfLaws.{self_long, cuts_registers, orders_rest}
use Rattle.feedback_cut.proofs.cutting.cut_registers.Goals as goal

pub with_self_reads-requires-clause-groups : goal.with_self_reads-requires-clause-groups
with_self_reads-requires-clause-groups c = c.in_ok-groups.ensures.nodes

pub with_self_reads-requires-clause-graph : goal.with_self_reads-requires-clause-graph
with_self_reads-requires-clause-graph c = ap length c.in_ok-graph.ensures ∙ inner_long c.args.n.now.net c.args.parts.now

pub search-requires : goal.search-requires
search-requires c =
    c.nodes_of-count.ensures.count ∙ sym (ap length c.in_ok-selves.ensures ∙ (self_long c.args.n.now.net c.in_ok-groups.groups.of c.in_ok-graph.graph ∙ (ap length c.in_ok-graph.ensures ∙ inner_long c.args.n.now.net c.args.parts.now)))

pub returns-clause-cut : goal.returns-clause-cut
returns-clause-cut c =
    let s : IsSearched (self_rows c.args.n.now.net c.in_ok-groups.groups.of (inner_rows c.args.n.now.net c.args.parts.now)) c.in_ok-searched.searched.order.items c.in_ok-searched.searched.cut = subst (λ g. IsSearched (self_rows c.args.n.now.net c.in_ok-groups.groups.of g) c.in_ok-searched.searched.order.items c.in_ok-searched.searched.cut) c.in_ok-graph.ensures (subst (λ g. IsSearched g c.in_ok-searched.searched.order.items c.in_ok-searched.searched.cut) c.in_ok-selves.ensures c.in_ok-searched.ensures) in
    cuts_registers c.args.n.now.net c.args.parts.now c.nodes_of-count.ensures.design.valid c.in_ok-groups.groups c.in_ok-groups.ensures c.in_ok-searched.searched.order.items c.in_ok-searched.searched.cut s

pub returns-clause-order : goal.returns-clause-order
returns-clause-order c =
    let s : IsSearched (self_rows c.args.n.now.net c.in_ok-groups.groups.of (inner_rows c.args.n.now.net c.args.parts.now)) c.in_ok-searched.searched.order.items c.in_ok-searched.searched.cut = subst (λ g. IsSearched (self_rows c.args.n.now.net c.in_ok-groups.groups.of g) c.in_ok-searched.searched.order.items c.in_ok-searched.searched.cut) c.in_ok-graph.ensures (subst (λ g. IsSearched g c.in_ok-searched.searched.order.items c.in_ok-searched.searched.cut) c.in_ok-selves.ensures c.in_ok-searched.ensures) in
    orders_rest c.args.n.now.net c.args.parts.now c.nodes_of-count.ensures.design.valid c.in_ok-groups.groups c.in_ok-groups.ensures c.in_ok-searched.searched.order.items c.in_ok-searched.searched.cut s
