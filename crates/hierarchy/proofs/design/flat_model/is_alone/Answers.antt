use Rattle.std.proofs.Common.{◌≡◌, ◌∙◌, map, sym, ap}
use Rattle.blif_text.specs.Views.{plain_model, plain_element}
use Rattle.library_faults.specs.Flat.{main_of}
use Rattle.hierarchy.specs.Private.Alone.{places_nothing}
use Rattle.hierarchy.proofs.Alone.{alone_flat, alone_clear}
use Rattle.library_faults.proofs.Models.{at_model, first_model}
use Rattle.hierarchy.proofs.design.flat_model.is_alone.Goals as goal

pub returns-clause-model : goal.returns-clause-model
returns-clause-model c = λ alone. alone_flat (map plain_model c.args.models.now) (ap (λ m. places_nothing m.elements) (sym main_is) ∙ (ap (λ es. places_nothing (map plain_element es)) (sym c.deref.ensures.value) ∙ (sym c.places_nothing.ensures ∙ alone)))
  where
    main_is : plain_model c.index-models-0.result ≡ main_of (map plain_model c.args.models.now)
    main_is = sym (at_model c.args.models.now 0 c.index-models-0.result c.requires c.index-models-0.is) ∙ first_model (map plain_model c.args.models.now)

pub returns-clause-clear : goal.returns-clause-clear
returns-clause-clear c = λ alone. alone_clear (map plain_model c.args.models.now) (ap (λ m. places_nothing m.elements) (sym main_is) ∙ (ap (λ es. places_nothing (map plain_element es)) (sym c.deref.ensures.value) ∙ (sym c.places_nothing.ensures ∙ alone)))
  where
    main_is : plain_model c.index-models-0.result ≡ main_of (map plain_model c.args.models.now)
    main_is = sym (at_model c.args.models.now 0 c.index-models-0.result c.requires c.index-models-0.is) ∙ first_model (map plain_model c.args.models.now)
