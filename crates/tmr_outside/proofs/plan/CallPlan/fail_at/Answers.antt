use Rattle.std.proofs.Common.{refl}
use Rattle.tmr_outside.proofs.PlanLemmas.{failing_of-insert}
use Rattle.tmr_outside.proofs.plan.CallPlan.fail_at.Goals as goal

pub returns-clause-ok : goal.returns-clause-ok
returns-clause-ok c = rw (← c.self.view_is, failing_of-insert c.self.inside.failing c.insert.new.self c.args.call c.args.keep c.in_ok-insert.ensures.updates) refl
