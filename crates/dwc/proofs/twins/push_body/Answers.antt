use Rattle.dwc.proofs.Making.{node_is_no_input}
use Rattle.dwc.proofs.twins.push_body.Goals as goal

pub returns-in-Input : goal.returns-in-Input
returns-in-Input c = absurd (node_is_no_input c.args.n.now.net c.args.x.0 c.requires.node c.requires.range c.in-Input.ensures)
