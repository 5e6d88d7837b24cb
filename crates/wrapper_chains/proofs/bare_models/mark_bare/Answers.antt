use Rattle.std.proofs.Common.{◌∙◌, sym, ap, map}
use Rattle.std.specs.List.{list_all}
use Rattle.blif_text.specs.Views.{plain_element}
use Rattle.wrapper_chains.specs.Bare.{is_bare_element}
use Rattle.wrapper_chains.proofs.BareLaws.{marked}
use Rattle.wrapper_chains.proofs.bare_models.mark_bare.Goals as goal

pub returns-then-are_bare : goal.returns-then-are_bare
returns-then-are_bare c = marked c.args.models.now c.args.names.now.keys c.args.holds.now c.args.x c.index-models-x.result c.requires.names c.requires.x c.index-models-x.is c.requires.bare
    (ap (λ m. list_all (is_bare_element c.args.names.now.keys c.args.holds.now) (map plain_element m.elements.items)) c.index-models-x.is ∙ (ap (λ es. list_all (is_bare_element c.args.names.now.keys c.args.holds.now) (map plain_element es)) (sym c.deref.ensures.value) ∙ (sym c.are_bare.ensures ∙ c.if-are_bare.true)))
