use Rattle.std.proofs.Common.{arith}
use Rattle.tmr_trial.proofs.MemberLaws.{one_more}
use Rattle.tmr_trial.proofs.members.members_of.Goals as goal

pub add_member-requires : goal.add_member-requires
add_member-requires c = λ d. omega (arith, c.domain-copy.ensures.range, c.loop-g.invariant.long d)

pub loop-g-preserved : goal.loop-g-preserved
loop-g-preserved c =
    one_more c.args.c.now c.loop-g.g _ c.domain-copy.result.0.0 c.domain-copy.result.1 c.loop-g.members c.add_member.new.members c.loop-g.invariant
    (omega (arith, c.requires.inputs, c.input_count-inputs.ensures.count)) c.domain-copy.ensures.is_in c.domain-copy.ensures.range c.in_ok-add_member.ensures.added c.in_ok-add_member.ensures.others
