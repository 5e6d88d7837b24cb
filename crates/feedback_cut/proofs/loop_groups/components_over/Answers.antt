use Rattle.std.proofs.Common.{length, sym, ◌∙◌, ap, subst}
use Rattle.feedback_cut.specs.Inner.{inner_rows}
use Rattle.feedback_cut.specs.Private.Numbering.{IsNumbered}
use Rattle.feedback_cut.specs.Private.Loops.{AreLooped}
use Rattle.feedback_cut.proofs.InnerLaws.{inner_long}
use Rattle.feedback_cut.proofs.ComponentLaws.{are_components}
use Rattle.feedback_cut.proofs.loop_groups.components_over.Goals as goal

pub number_vertices-requires : goal.number_vertices-requires
number_vertices-requires c = c.nodes_of-count.ensures.count ∙ sym (ap length c.requires ∙ inner_long c.args.n.now.net c.args.parts.now)

pub looped-requires-clause-count : goal.looped-requires-clause-count
looped-requires-clause-count c = c.nodes_of-count.ensures.count ∙ sym (ap length c.requires ∙ inner_long c.args.n.now.net c.args.parts.now)

pub returns : goal.returns
returns c =
    let m : IsNumbered (inner_rows c.args.n.now.net c.args.parts.now) c.in_ok-found.found.numbers.items c.in_ok-found.found.groups = subst (λ g. IsNumbered g c.in_ok-found.found.numbers.items c.in_ok-found.found.groups) c.requires c.in_ok-found.ensures in
    let a : AreLooped (inner_rows c.args.n.now.net c.args.parts.now) c.in_ok-found.found.numbers.items c.in_ok-found.found.groups c.nodes_of-count.result c.in_ok-loops.loops.items =
    subst (λ ns. AreLooped (inner_rows c.args.n.now.net c.args.parts.now) ns c.in_ok-found.found.groups c.nodes_of-count.result c.in_ok-loops.loops.items) c.as_slice.ensures.value (subst (λ g. AreLooped g c.as_slice.result.now c.in_ok-found.found.groups c.nodes_of-count.result c.in_ok-loops.loops.items) c.requires c.in_ok-loops.ensures) in
    are_components c.args.n.now.net c.args.parts.now c.nodes_of-count.ensures.design.valid c.in_ok-found.found.numbers.items c.in_ok-found.found.groups c.nodes_of-count.result c.in_ok-loops.loops.items c.nodes_of-count.ensures.count m a
