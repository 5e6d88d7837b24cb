use Rattle.recovery_depth.proofs.Ordered.{ordered_of_searched}
use Rattle.recovery_depth.proofs.ordering.ordered.Goals as goal

pub returns : goal.returns
returns c =
    ordered_of_searched c.args.graph.now c.in_ok-searched.searched.order.items c.in_ok-searched.searched.cut c.in_ok-searched.ensures c.requires.open_ended
