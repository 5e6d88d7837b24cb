use Rattle.dwc.specs.Guard.{guard_net}
use Rattle.dwc.proofs.Making.{made_none}
use Rattle.dwc.proofs.guarding.made_guard.Goals as goal

pub push_twins-requires-clause-made : goal.push_twins-requires-clause-made
push_twins-requires-clause-made c = made_none (guard_net c.args.n.now.net) _ c.in_ok-names.ensures c.no_nodes-nodes.ensures
