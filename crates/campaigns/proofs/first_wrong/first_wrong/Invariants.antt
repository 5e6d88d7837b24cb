use Rattle.campaigns.specs.NearCampaign.{IsFirst}
use Rattle.campaigns.specs.Private.Seeking.{IsSeenWrong}
use Rattle.campaigns.proofs.first_wrong.first_wrong.Given as goal

abbrev pub invariant-loop-j : goal.invariant-loop-j
invariant-loop-j l = IsFirst (IsSeenWrong l.outcomes l.j 0) l.found
