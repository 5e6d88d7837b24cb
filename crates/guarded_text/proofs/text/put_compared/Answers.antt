use Rattle.std.proofs.Common.{ℕ, List, ◌-◌, ◌++◌, ap, ◌∙◌, arith}
use Rattle.guarded_text.proofs.Steps.{compared_output, compared_alarm}
use Rattle.guarded_text.proofs.text.put_compared.Goals as goal

pub returns-then-step-outputs : goal.returns-then-step-outputs
returns-then-step-outputs c =
    c.in_ok-put_comparator_of.ensures ∙ ap (λ (t : List ℕ). c.args.out.now.items ++ t)
    (compared_output c.args.n.now.net c.args.step (omega (arith, c.if-step-outputs.true, c.from-outputs.ensures, c.output_count.ensures)))

pub returns : goal.returns
returns c =
    c.in_ok-put_alarm_step.ensures ∙ ap (λ (t : List ℕ). c.args.out.now.items ++ t)
    (compared_alarm c.args.n.now.net c.args.step (c.args.step - c.from-outputs.result) (omega (arith, c.from-outputs.ensures, c.output_count.ensures))
    (omega (arith, c.if-step-outputs.false, c.from-outputs.ensures, c.output_count.ensures)))
