use Rattle.std.proofs.Common.{ℕ, List, [], ◌∷◌, ◌-◌, ◌++◌, ap, ◌∙◌, append_assoc, arith}
use Rattle.std.specs.Prelude.{codes}
use Rattle.std.specs.Fmt.{decimal}
use Rattle.certificate.specs.Text.{line_text, part_line}
use Rattle.triplicate.specs.Form.{version_of}
use Rattle.hardened_text.proofs.Steps.{certificate_front, certificate_part, certificate_behind}
use Rattle.hardened_text.proofs.certificate_text.put_step.Goals as goal

pub returns-then-step-eq0 : goal.returns-then-step-eq0
returns-then-step-eq0 c =
    let p = c.args.form.now.plan in
    c.in_ok-put_front.ensures
    ∙ (append_assoc c.args.out.now.items (line_text (codes "tmr-cert" ∷ decimal (version_of p.inputs) ∷ [])) (line_text (codes "parts" ∷ decimal p.parts.count ∷ []))
    ∙ ap (λ (t : List ℕ). c.args.out.now.items ++ t) (certificate_front c.args.n.now.design.net p c.args.step (omega (arith, c.if-step-eq0.true))))

pub returns-then-p-parts : goal.returns-then-p-parts
returns-then-p-parts c =
    c.in_ok-put_part.ensures ∙ ap (λ (t : List ℕ). c.args.out.now.items ++ t)
    (ap (λ (d : ℕ). line_text (part_line (c.args.step - 1) d)) c.depth.ensures
    ∙ certificate_part c.args.n.now.design.net c.args.form.now.plan c.args.step (c.args.step - 1) (omega arith) (omega (arith, c.if-step-eq0.false)) (omega (arith, c.if-p-parts.true, c.count.ensures, c.from-parts.ensures)))

pub returns : goal.returns
returns c =
    c.in_ok-put_behind.ensures ∙ ap (λ (t : List ℕ). c.args.out.now.items ++ t)
    (certificate_behind c.args.n.now.design.net c.args.form.now.plan c.args.step (c.args.step - 1 - c.from-parts.result) (omega (arith, c.count.ensures, c.from-parts.ensures)) (omega (arith, c.if-step-eq0.false))
    (omega (arith, c.if-p-parts.false, c.count.ensures, c.from-parts.ensures)))
