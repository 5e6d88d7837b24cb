use Rattle.std.proofs.Common.{◌+◌, sym, ◌∙◌, arith}
use Rattle.partition_graph.proofs.PlaceLaws.{part_here}
use Rattle.partition_graph.proofs.GroupLaws.{lead_within, has_lead_is}
use Rattle.partition_graph.proofs.groups.has_lead.Goals as goal

pub overflow_add-inputs-3 : goal.overflow_add-inputs-3
overflow_add-inputs-3 c =
    let own = part_here c.args.c.now c.args.x (c.args.inputs + c.args.x) c.part-p.result.0 (omega (arith, c.requires.inputs, c.requires.same)) c.part-p.ensures.part in
    omega (arith, lead_within c.args.n.now.net c.args.c.now c.args.leads.now c.part-p.result.0 c.args.x c.requires.leading c.part-p.ensures.range c.requires.range own, c.requires.inputs, c.requires.nodes, c.nodes_of-nodes.ensures.few)

pub path-requires-2 : goal.path-requires-2
path-requires-2 c =
    let own = part_here c.args.c.now c.args.x (c.args.inputs + c.args.x) c.part-p.result.0 (omega (arith, c.requires.inputs, c.requires.same)) c.part-p.ensures.part in
    omega (arith, lead_within c.args.n.now.net c.args.c.now c.args.leads.now c.part-p.result.0 c.args.x c.requires.leading c.part-p.ensures.range c.requires.range own, c.requires.inputs, c.requires.nodes)

pub returns : goal.returns
returns c =
    let own = part_here c.args.c.now c.args.x (c.args.inputs + c.args.x) c.part-p.result.0 (omega (arith, c.requires.inputs, c.requires.same)) c.part-p.ensures.part in
    has_lead_is c.args.n.now.net c.args.c.now c.args.leads.now c.args.inputs c.args.x c.part-p.result.0 c.path.result.now c.path-2.result.now c.are_same.result (c.requires.inputs ∙ sym c.requires.same) own c.path.ensures c.path-2.ensures c.are_same.ensures
