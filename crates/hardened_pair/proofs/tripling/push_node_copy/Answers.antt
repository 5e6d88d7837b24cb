use Rattle.hardened_pair.proofs.RoleSteps.{node_is_no_input}
use Rattle.hardened_pair.proofs.tripling.push_node_copy.Goals as goal

pub returns-in-Input : goal.returns-in-Input
returns-in-Input c = absurd (node_is_no_input c.args.n.now.net c.args.x.0 c.requires.node c.requires.range c.in-Input.ensures)
