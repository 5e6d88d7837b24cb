use Rattle.triplicate.specs.Construction.{hardened_order}
use Rattle.triplicate.specs.Labels.{labeling}
use Rattle.triplicate.specs.Planned.{plan_votes}
use Rattle.triplicate.proofs.Valid.{is_valid}
use Rattle.triplicate.proofs.HardenedOrder.{is_order}
use Rattle.hardened_pair.specs.declared.layout.Layout.{Layout}
use Rattle.hardened_pair.proofs.Rooms.{layout_is, made_names, made_nodes}
use Rattle.hardened_pair.proofs.hardening.paired.Goals as goal

pub starts-requires-clause-few : goal.starts-requires-clause-few
starts-requires-clause-few c = c.requires.given.few

pub make_tripled-requires : goal.make_tripled-requires
make_tripled-requires c =
    let l : Layout = record { net = c.args.n; plan = c.args.plan; starts = c.in_ok-starts.starts } in
    layout_is l (labeling c.args.plan.now.inputs c.args.plan.now.extra.table) c.requires.given c.requires.votes c.requires.voters c.requires.taps c.in_ok-starts.ensures

pub assembled-requires-clause-layout : goal.assembled-requires-clause-layout
assembled-requires-clause-layout c =
    let l : Layout = record { net = c.args.n; plan = c.args.plan; starts = c.in_ok-starts.starts } in
    layout_is l (labeling c.args.plan.now.inputs c.args.plan.now.extra.table) c.requires.given c.requires.votes c.requires.voters c.requires.taps c.in_ok-starts.ensures

pub assembled-requires-clause-names : goal.assembled-requires-clause-names
assembled-requires-clause-names c =
    let l : Layout = record { net = c.args.n; plan = c.args.plan; starts = c.in_ok-starts.starts } in
    made_names l (labeling c.args.plan.now.inputs c.args.plan.now.extra.table) c.requires.given c.in_ok-made.made c.in_ok-made.ensures.made c.in_ok-made.ensures.waiting c.in_ok-made.ensures.roles

pub assembled-requires-clause-nodes : goal.assembled-requires-clause-nodes
assembled-requires-clause-nodes c =
    let l : Layout = record { net = c.args.n; plan = c.args.plan; starts = c.in_ok-starts.starts } in
    made_nodes l (labeling c.args.plan.now.inputs c.args.plan.now.extra.table) c.requires.given c.in_ok-made.made c.in_ok-made.ensures.made c.in_ok-made.ensures.roles

pub assembled-requires-clause-valid : goal.assembled-requires-clause-valid
assembled-requires-clause-valid c = is_valid c.args.n.now.net c.args.plan.now.parts (plan_votes c.args.n.now.net c.args.plan.now) (labeling c.args.plan.now.inputs c.args.plan.now.extra.table) c.requires.given (hardened_order c.args.n.now.net c.args.plan.now.parts (plan_votes c.args.n.now.net c.args.plan.now) c.args.n.now.order) (is_order c.args.n.now.net c.args.plan.now.parts (plan_votes c.args.n.now.net c.args.plan.now) (labeling c.args.plan.now.inputs c.args.plan.now.extra.table) c.requires.given c.args.n.now.order c.nodes_of-nodes.ensures.design.order)

pub assembled-requires-clause-ordered : goal.assembled-requires-clause-ordered
assembled-requires-clause-ordered c = is_order c.args.n.now.net c.args.plan.now.parts (plan_votes c.args.n.now.net c.args.plan.now) (labeling c.args.plan.now.inputs c.args.plan.now.extra.table) c.requires.given c.args.n.now.order c.nodes_of-nodes.ensures.design.order

pub certified-requires-clause-layout : goal.certified-requires-clause-layout
certified-requires-clause-layout c =
    let l : Layout = record { net = c.args.n; plan = c.args.plan; starts = c.in_ok-starts.starts } in
    layout_is l (labeling c.args.plan.now.inputs c.args.plan.now.extra.table) c.requires.given c.requires.votes c.requires.voters c.requires.taps c.in_ok-starts.ensures
