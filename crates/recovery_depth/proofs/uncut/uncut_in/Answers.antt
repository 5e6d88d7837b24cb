use Rattle.std.proofs.Common.{◌<◌, length, sym, ◌∙◌, ap, subst, arith}
use Rattle.graph.specs.Rows.{row}
use Rattle.feedback_cut.proofs.InnerLaws.{inner_long}
use Rattle.recovery_depth.specs.Private.Vertices.{HasNoLoop}
use Rattle.recovery_depth.specs.Private.Uncut.{uncut_rows}
use Rattle.recovery_depth.proofs.UncutLaws.{shape, few_places, no_loop, rest_long}
use Rattle.recovery_depth.proofs.uncut.uncut_in.Goals as goal

pub uncut-requires-clause-vertices : goal.uncut-requires-clause-vertices
uncut-requires-clause-vertices c =
    c.requires.cut.nodes ∙ sym (ap length c.requires.graph ∙ inner_long c.args.n.now.net c.args.parts.now)

pub uncut-requires-clause-places : goal.uncut-requires-clause-places
uncut-requires-clause-places c = λ y l.
    shape c.args.n.now.net c.args.parts.now c.args.cut.now c.nodes_of.ensures.design.valid c.requires.cut y ∙ sym (ap (λ g. length (row g y)) c.requires.graph)

pub uncut-requires-clause-few : goal.uncut-requires-clause-few
uncut-requires-clause-few c = λ y l.
    let within : y < length c.args.n.now.net.nodes = omega (arith, ap length c.requires.graph, inner_long c.args.n.now.net c.args.parts.now, l) in
    subst (λ g. length (row g y) < 4294967296) (sym c.requires.graph) (few_places c.args.n.now.net c.args.parts.now c.nodes_of.ensures.design.valid y within)

pub uncut-requires-clause-count : goal.uncut-requires-clause-count
uncut-requires-clause-count c =
    c.nodes_of.ensures.count ∙ sym (ap length c.requires.graph ∙ inner_long c.args.n.now.net c.args.parts.now)

pub returns-clause-rows : goal.returns-clause-rows
returns-clause-rows c = c.in_ok-rest.ensures ∙ ap (λ g. uncut_rows g c.args.cut.now) c.requires.graph

pub returns-clause-nodes : goal.returns-clause-nodes
returns-clause-nodes c =
    ap length (returns-clause-rows c) ∙ rest_long c.args.n.now.net c.args.parts.now c.args.cut.now c.nodes_of.ensures.design.valid c.requires.cut

pub returns-clause-open_ended : goal.returns-clause-open_ended
returns-clause-open_ended c =
    subst HasNoLoop (sym (returns-clause-rows c)) (no_loop c.args.n.now.net c.args.parts.now c.args.cut.now c.nodes_of.ensures.design.valid c.requires.cut)
