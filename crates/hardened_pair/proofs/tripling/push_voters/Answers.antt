use Rattle.std.proofs.Common.{get_or}
use Rattle.triplicate.specs.Blocks.{voters_for}
use Rattle.hardened_pair.proofs.RoleSteps.{next_in_row, next_nothing}
use Rattle.hardened_pair.proofs.tripling.push_voters.Goals as goal

pub push_three_voters-requires-clause-next : goal.push_three_voters-requires-clause-next
push_three_voters-requires-clause-next c = next_in_row c.args.layout.now (voters_for c.args.voted.now.net.0) c.args.made.now.roles.items c.loop-p.made.roles.items c.args.row.now c.loop-p.p-index c.requires.next c.loop-p-test.true c.loop-p.invariant.roles

pub put_if_many-requires-clause-next : goal.put_if_many-requires-clause-next
put_if_many-requires-clause-next c =
    let next = next_in_row c.args.layout.now (voters_for c.args.voted.now.net.0) c.args.made.now.roles.items c.loop-p.made.roles.items c.args.row.now c.loop-p.p-index c.requires.next c.loop-p-test.true c.loop-p.invariant.roles in
    next_nothing c.args.layout.now c.loop-p.made.roles.items c.push_three_voters.new.made.roles.items (voters_for c.args.voted.now.net.0 (get_or c.args.row.now c.loop-p.p-index 0)) next c.in_ok-push_three_voters.ensures.roles
