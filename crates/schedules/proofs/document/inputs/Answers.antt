use Rattle.std.proofs.Common.{sym, ap, ◌∙◌, option_map}
use Rattle.std.specs.Prelude.{option_and_then}
use Rattle.toml.specs.Data.{as_array}
use Rattle.toml.specs.View.{view}
use Rattle.schedules.proofs.document.inputs.Goals as goal

pub returns-in-Some : goal.returns-in-Some
returns-in-Some c = c.as_array.ensures ∙ ap (option_and_then as_array) (sym (ap (option_map (λ x. view x.now)) c.in-Some.is) ∙ c.member.ensures)

pub returns-in-None : goal.returns-in-None
returns-in-None c = ap (option_and_then as_array) (sym (ap (option_map (λ x. view x.now)) c.in-None.is) ∙ c.member.ensures)
