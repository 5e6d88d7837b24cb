use Rattle.std.proofs.Common.{Bool, cond, sym, ap, ◌∙◌}
use Rattle.exposure.specs.Counts.{near_of}
use Rattle.sweep.proofs.SweepLaws.{inputs_near, none_near}
use Rattle.sweep.proofs.near.near_inputs.Goals as goal

pub returns-then-plan : goal.returns-then-plan
returns-then-plan c =
    let i = c.input_count-inputs.result in
    c.near.ensures ∙ (ap (λ (b : Bool). cond b (near_of i i i 0) 0) (sym c.if-plan.true) ∙ inputs_near c.args.n.now.net c.args.plan.now i c.input_count-inputs.ensures.count)

pub returns-else-plan : goal.returns-else-plan
returns-else-plan c = none_near c.args.n.now.net c.args.plan.now c.if-plan.false
