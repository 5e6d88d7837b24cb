use Rattle.std.proofs.Common.{sym, subst}
use Rattle.flat_net.specs.Net.{Design}
use Rattle.triplicate.specs.Surveyed.{IsSurvey}
use Rattle.sweep.proofs.swept.sweep_size.Goals as goal

pub plan_from-requires-clause-survey : goal.plan_from-requires-clause-survey
plan_from-requires-clause-survey c = subst (λ (d : Design). IsSurvey d.net c.args.survey) (sym c.net-net.ensures.net) c.requires.survey

pub returns-clause-survey : goal.returns-clause-survey
returns-clause-survey c = subst (λ (d : Design). IsSurvey d.net c.in_ok-made.made.survey) c.net-net.ensures.net c.in_ok-made.ensures.survey
