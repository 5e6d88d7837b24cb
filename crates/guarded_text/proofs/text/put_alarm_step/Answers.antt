use Rattle.std.proofs.Common.{ℕ, List, ◌-◌, ◌++◌, ap, ◌∙◌, arith}
use Rattle.guarded_text.proofs.Steps.{alarm_word, alarm_name, alarm_ends}
use Rattle.guarded_text.proofs.text.put_alarm_step.Goals as goal

pub returns-then-step-eq0 : goal.returns-then-step-eq0
returns-then-step-eq0 c =
    c.in_ok-extend_from_slice.ensures.items ∙ ap (λ (t : List ℕ). c.args.out.now.items ++ t) (alarm_word c.args.n.now.net c.args.step (omega (arith, c.if-step-eq0.true)))

pub returns-then-k-from : goal.returns-then-k-from
returns-then-k-from c =
    c.in_ok-put_comparator_name_of.ensures ∙ ap (λ (t : List ℕ). c.args.out.now.items ++ t)
    (alarm_name c.args.n.now.net c.args.step (c.args.step - 1) (omega arith) (omega (arith, c.if-step-eq0.false)) (omega (arith, c.if-k-from.true, c.from.ensures, c.output_count.ensures)))

pub returns : goal.returns
returns c =
    c.in_ok-put_alarm_end.ensures ∙ ap (λ (t : List ℕ). c.args.out.now.items ++ t)
    (alarm_ends c.args.n.now.net c.args.step (omega (arith, c.if-step-eq0.false)) (omega (arith, c.if-k-from.false, c.from.ensures, c.output_count.ensures)))
