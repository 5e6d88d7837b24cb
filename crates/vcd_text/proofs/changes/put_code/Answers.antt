use Rattle.std.proofs.Common.{◌++◌, ◌∷◌, [], ◌%◌, ◌/◌, ◌+◌, List, ℕ, refl, ap, sym, ◌∙◌, append_assoc, arith}
use Rattle.vcd_text.specs.Text.{code_text}
use Rattle.vcd_text.proofs.Puts.{code_low, code_high}
use Rattle.vcd_text.proofs.changes.put_code.Goals as goal

pub loop-rest-init : goal.loop-rest-init
loop-rest-init c = refl

pub loop-rest-preserved : goal.loop-rest-preserved
loop-rest-preserved c =
    let rest = c.loop-rest.rest in
    ap (λ (o : List ℕ). o ++ code_text (rest / 94)) c.in_ok-push.ensures.items ∙ (append_assoc c.loop-rest.out.items ((33 + rest % 94) ∷ []) (code_text (rest / 94)) ∙ (ap (λ (t : List ℕ). c.loop-rest.out.items ++ t) (sym (code_high rest (omega (arith, c.loop-rest-test.true)))) ∙ c.loop-rest.invariant))

pub returns : goal.returns
returns c =
    c.in_ok-push-2.ensures.items ∙ (ap (λ (t : List ℕ). c.loop-rest.out.items ++ t) (sym (code_low c.loop-rest.rest (omega (arith, c.loop-rest-test.false)))) ∙ c.loop-rest.invariant)
