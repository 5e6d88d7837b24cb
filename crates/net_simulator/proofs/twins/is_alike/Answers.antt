use Rattle.std.proofs.Common.{map}
use Rattle.flat_net.specs.Net.{node_of}
use Rattle.flat_net.specs.Nodes.{number_of}
use Rattle.net_simulator.proofs.TwinLaws.{vote_alike}
use Rattle.net_simulator.proofs.twins.is_alike.Goals as goal

pub returns-else-copies : goal.returns-else-copies
returns-else-copies c = λ yes. vote_alike c.args.n.now.net (map number_of c.args.origins.now) c.args.x.0 (node_of c.args.h.now.net c.args.y.0) (c.votes.ensures yes)
