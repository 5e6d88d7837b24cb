use Rattle.certificate.specs.declared.role.Role.TheVariants.{Voter}
use Rattle.hardened_pair.proofs.RoleSteps.{next_copy, copy_more}
use Rattle.hardened_pair.proofs.tripling.push_three_voters.Goals as goal

pub push_voter-requires-clause-next : goal.push_voter-requires-clause-next
push_voter-requires-clause-next c = next_copy c.args.layout.now (Voter c.args.voted.now.net c.args.p) c.args.made.now.roles.items c.loop-c.made.roles.items c.loop-c.c-index c.requires.next c.loop-c-test.true c.loop-c.invariant.roles

pub loop-c-preserved : goal.loop-c-preserved
loop-c-preserved c = record {
  made = c.in_ok-push_voter.ensures.made;
  roles = copy_more (Voter c.args.voted.now.net c.args.p) c.args.made.now.roles.items c.loop-c.made.roles.items c.push_voter.new.made.roles.items c.loop-c.c-index c.loop-c-test.true c.loop-c.invariant.roles c.in_ok-push_voter.ensures.roles;
}
