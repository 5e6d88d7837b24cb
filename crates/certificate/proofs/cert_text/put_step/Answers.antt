use Rattle.std.proofs.Common.{◌-◌, ◌++◌, [], ◌∷◌, ℕ, ap, ◌∙◌, arith}
use Rattle.std.specs.Prelude.{codes}
use Rattle.std.specs.Fmt.{decimal}
use Rattle.certificate.specs.Text.{line_text}
use Rattle.certificate.proofs.Stepping.{front_step, part_step, behind_step}
use Rattle.certificate.proofs.cert_text.put_step.Goals as goal

pub returns-then-step-eq0 : goal.returns-then-step-eq0
returns-then-step-eq0 c =
    let out = c.args.out.now.items in
    front_step c.args.n.now.net c.args.h.now.net c.args.k.now c.args.step out c.put_head.new.out.items (omega (arith, c.if-step-eq0.true))
    (c.in_ok-put_head.ensures
    ∙ (ap (λ (v : ℕ). (out ++ line_text (codes "tmr-cert" ∷ decimal v ∷ [])) ++ line_text (codes "parts" ∷ decimal c.parts-parts.result ∷ []))
    c.version.ensures
    ∙ ap (λ (m : ℕ). (out ++ line_text (codes "tmr-cert" ∷ decimal c.args.k.now.version ∷ [])) ++ line_text (codes "parts" ∷ decimal m ∷ []))
    c.parts-parts.ensures.count))

pub returns-then-p-parts : goal.returns-then-p-parts
returns-then-p-parts c =
    part_step c.args.n.now.net c.args.h.now.net c.args.k.now c.args.step (c.args.step - 1) c.args.out.now.items c.put_part_at.new.out.items (omega arith)
    (omega (arith, c.if-step-eq0.false)) (omega (arith, c.if-p-parts.true, c.from-parts.ensures, c.parts-parts.ensures.count)) c.in_ok-put_part_at.ensures

pub returns : goal.returns
returns c =
    behind_step c.args.n.now.net c.args.h.now.net c.args.k.now c.args.step (c.args.step - 1 - c.from-parts.result)
    c.args.out.now.items c.put_behind.new.out.items
    (omega (arith, c.from-parts.ensures, c.parts-parts.ensures.count)) (omega (arith, c.if-step-eq0.false))
    (omega (arith, c.if-p-parts.false, c.from-parts.ensures, c.parts-parts.ensures.count)) c.in_ok-put_behind.ensures
