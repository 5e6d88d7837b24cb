use Rattle.std.proofs.Common.{length, refl, ap, arith}
use Rattle.flat_net.specs.Net.{Net}
use Rattle.triplicate.specs.Planned.{plan_votes}
use Rattle.triplicate.proofs.Sizes.{roles_counted}
use Rattle.triplicate.proofs.Whole.{nodes_long}
use Rattle.hardened_pair.proofs.hardening.build.Goals as goal

pub paired-requires-clause-votes : goal.paired-requires-clause-votes
paired-requires-clause-votes c = c.in_ok-plan.ensures.votes

pub paired-requires-clause-voters : goal.paired-requires-clause-voters
paired-requires-clause-voters c = c.in_ok-plan.ensures.voters

pub paired-requires-clause-taps : goal.paired-requires-clause-taps
paired-requires-clause-taps c = c.in_ok-plan.ensures.taps

pub paired-requires-clause-given : goal.paired-requires-clause-given
paired-requires-clause-given c = c.in_ok-plan.ensures.given

pub overflow_sub-voters : goal.overflow_sub-voters
overflow_sub-voters c =
    omega (arith, c.node_count.ensures, c.node_count-2.ensures, ap (λ (h : Net). length h.nodes) c.in_ok-net.ensures.net, nodes_long c.args.n.now.net c.in_ok-plan.plan.parts (plan_votes c.args.n.now.net c.in_ok-plan.plan), roles_counted c.args.n.now.net c.in_ok-plan.plan.parts (plan_votes c.args.n.now.net c.in_ok-plan.plan))

pub returns : goal.returns
returns c = record {
  plan = c.in_ok-plan.plan;
  planned = c.in_ok-plan.ensures;
  made = record {
    net = c.in_ok-net.ensures.net;
    cert = c.in_ok-net.ensures.cert;
    cost = refl;
    plain = refl;
    minimal = refl;
    voters = omega (arith, c.node_count.ensures, c.node_count-2.ensures, ap (λ (h : Net). length h.nodes) c.in_ok-net.ensures.net, nodes_long c.args.n.now.net c.in_ok-plan.plan.parts (plan_votes c.args.n.now.net c.in_ok-plan.plan), roles_counted c.args.n.now.net c.in_ok-plan.plan.parts (plan_votes c.args.n.now.net c.in_ok-plan.plan));
  };
}
