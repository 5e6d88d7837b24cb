use Rattle.std.proofs.Common.{◌≡◌, Option, sym, ap, subst, ◌∙◌, option_map}
use Rattle.std.specs.Prelude.{IfOk}
use Rattle.toml.specs.Data.{Data}
use Rattle.toml.specs.View.{view}
use Rattle.schedules.specs.Document.{starts_in}
use Rattle.schedules.proofs.document.read_starts.Goals as goal

pub returns-in-Some-clause-bits : goal.returns-in-Some-clause-bits
returns-in-Some-clause-bits c =
    subst (λ (d : Option Data). IfOk c.text_bits.result (λ o. option_map (λ v. v.items) o ≡ starts_in c.args.count d)) (sym (ap (option_map (λ x. view x.now)) c.in-Some.is) ∙ c.member.ensures) c.text_bits.ensures.bits
