use Rattle.tmr_trial.specs.Members.{AreMembers}
use Rattle.tmr_trial.proofs.members.members_of.Given as goal

abbrev pub invariant-loop-g : goal.invariant-loop-g
invariant-loop-g l = AreMembers l.c l.g l.members
