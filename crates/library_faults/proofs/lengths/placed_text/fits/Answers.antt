use Rattle.std.proofs.Common.{◌≡◌, ◌∙◌, sym, ap, map, arith}
use Rattle.std.specs.Prelude.{option_copied}
use Rattle.std.proofs.lemmas.Bool.{leb-true, leb-false}
use Rattle.std.proofs.lemmas.List.{length-map}
use Rattle.blif_text.specs.Views.{plain_model}
use Rattle.library_faults.specs.FlatText.{header_length, capped, text_length}
use Rattle.library_faults.specs.Flat.{flat_model}
use Rattle.library_faults.proofs.Models.{at_model, first_model}
use Rattle.library_faults.proofs.MainCosts.{main_counted, main_large}
use Rattle.library_faults.proofs.lengths.placed_text.fits.Goals as goal

total : (c : goal.After-saturating_add-total) → c.saturating_add-total.result ≡ capped (text_length (flat_model (map plain_model c.args.models.now)))
total c = c.saturating_add-total.ensures ∙ (main_counted (map plain_model c.args.models.now) c.args.order.now c.requires.placeable c.requires.ordered (omega (arith, c.requires.some, length-map c.args.models.now plain_model)) c.args.limit c.args.positions.now c.args.counts.now c.requires.counted c.requires.all c.requires.places c.in-Some.count.now c.header_length.result
    (sym c.entry_at.ensures ∙ ap option_copied c.in-Some.is)
    (c.header_length.ensures ∙ ap (λ m. capped (header_length m)) (sym (at_model c.args.models.now 0 c.index-models-0.result c.requires.some c.index-models-0.is) ∙ first_model (map plain_model c.args.models.now))))

pub returns-in-Some-clause-yes : goal.returns-in-Some-clause-yes
returns-in-Some-clause-yes c = λ fit. (let l = leb-true c.saturating_add-total.result c.args.limit fit in omega (arith, total c, l, c.requires.limit))

pub returns-in-Some-clause-no : goal.returns-in-Some-clause-no
returns-in-Some-clause-no c = λ fit. (let l = leb-false c.saturating_add-total.result c.args.limit fit in omega (arith, total c, l, c.requires.limit))

pub returns-in-None-clause-no : goal.returns-in-None-clause-no
returns-in-None-clause-no c = λ _. main_large (map plain_model c.args.models.now) c.args.order.now c.requires.placeable c.requires.ordered (omega (arith, c.requires.some, length-map c.args.models.now plain_model)) c.args.limit c.args.positions.now c.args.counts.now c.requires.counted c.requires.all c.requires.places (sym c.entry_at.ensures ∙ ap option_copied c.in-None.is)
