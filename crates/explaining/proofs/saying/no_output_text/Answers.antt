use Rattle.std.proofs.Common.{◌≡◌, ℕ, List, [], ◌∷◌, ◌∙◌, subst}
use Rattle.std.specs.Prelude.{codes, IfOk}
use Rattle.std.specs.Fmt.{decimal}
use Rattle.std.specs.List.{concat}
use Rattle.explaining.proofs.saying.no_output_text.Goals as goal

pub returns : goal.returns
returns c =
    subst (λ (t : List ℕ). IfOk c.output_text.result (λ text. text.items ≡ concat (codes "output " ∷ decimal c.args.place ∷ codes " is missing, wanted " ∷ t ∷ [])))
    (c.as_slice.ensures.value ∙ c.in_ok-copy.ensures) c.output_text.ensures
