use Rattle.std.proofs.Common.{refl}
use Rattle.std.specs.Prelude.{slice_index}
use Rattle.flat_net.specs.Net.{node_of}
use Rattle.sweep.specs.Private.Reaching.{voted_by}
use Rattle.sweep.proofs.ReachLaws.{stays, input_no_table, register_no_table}
use Rattle.sweep.proofs.reaching.next_reach.Goals as goal

pub returns-in-Input : goal.returns-in-Input
returns-in-Input c =
    stays c.args.n.now.net (voted_by c.args.n.now.net c.args.votes.now) c.args.reach.now c.args.x.0 (slice_index c.args.reach.now c.args.x.0) (input_no_table (node_of c.args.n.now.net c.args.x.0) c.in-Input.ensures) refl

pub returns-in-Register : goal.returns-in-Register
returns-in-Register c =
    stays c.args.n.now.net (voted_by c.args.n.now.net c.args.votes.now) c.args.reach.now c.args.x.0 (slice_index c.args.reach.now c.args.x.0) (register_no_table (node_of c.args.n.now.net c.args.x.0) c.in-Register.ensures) refl
