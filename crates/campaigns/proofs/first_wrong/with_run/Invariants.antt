use Rattle.campaigns.specs.NearCampaign.{IsFirst}
use Rattle.campaigns.specs.Private.Seeking.{IsSeenWrong}
use Rattle.campaigns.proofs.first_wrong.with_run.Given as goal

abbrev pub invariant-loop-i : goal.invariant-loop-i
invariant-loop-i l = IsFirst (IsSeenWrong l.outcomes l.j l.i) l.found
