use Rattle.clustering.proofs.SettleLaws.{size_kept}
use Rattle.clustering.proofs.settling.settled_parts.Goals as goal

pub returns : goal.returns
returns c =
    size_kept c.args.n.now.net c.args.size c.nodes_of-nodes.result c.part_count-parts.result c.in_ok-of.of.items c.make.result c.make.ensures c.nodes_of-nodes.ensures.count c.part_count-parts.ensures.few c.in_ok-of.ensures.each c.in_ok-of.ensures.in_range c.in_ok-of.ensures.held_few
