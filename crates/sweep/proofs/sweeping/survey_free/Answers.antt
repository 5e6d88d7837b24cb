use Rattle.std.proofs.Common.{subst}
use Rattle.flat_net.specs.Net.{Design}
use Rattle.triplicate.specs.Surveyed.{IsSurvey}
use Rattle.sweep.proofs.sweeping.survey_free.Goals as goal

pub returns : goal.returns
returns c = subst (λ (d : Design). IsSurvey d.net c.in_ok-survey.survey) c.net-net.ensures.net c.in_ok-survey.ensures
