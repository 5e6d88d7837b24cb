use Rattle.std.proofs.Common.{◌∙◌, sym, subst, map, arith}
use Rattle.std.proofs.lemmas.List.{length-map}
use Rattle.blif_text.specs.Views.{plain_model}
use Rattle.library_faults.specs.Private.Models.{model_at}
use Rattle.wrapper_chains.specs.Private.Ways.{IsShort}
use Rattle.wrapper_chains.proofs.Handing.{both_ok}
use Rattle.wrapper_chains.proofs.WayLaws.{stand_ins_are}
use Rattle.wrapper_chains.proofs.StandIns.{same_flat}
use Rattle.wrapper_chains.proofs.cutting.cut_at_heads.Goals as goal

pub returns-in-Some : goal.returns-in-Some
returns-in-Some c = both_ok c.stand_ins.result _ _ _ (λ found long each.
    same_flat (map plain_model c.args.models.items) c.args.looked.now.order.items c.requires.looked.ordered (map plain_model found.items)
    (stand_ins_are (map plain_model c.args.models.items) c.args.looked.now.order.items c.args.looked.now.positions.items c.args.ways.now c.requires.looked.ordered c.requires.looked.places c.requires.ways
    c.requires.library.models.names (map plain_model found.items)
    (length-map found.items plain_model ∙ (long ∙ sym (length-map c.args.models.items plain_model)))
    (λ x below. subst (λ names. IsShort names c.args.looked.now.positions.items c.args.ways.now x (model_at (map plain_model c.args.models.items) x) (model_at (map plain_model found.items) x)) c.requires.looked.names (each x (omega (arith, below, length-map c.args.models.items plain_model)))))
    c.requires.looked.placeable c.requires.library.some)
    c.stand_ins.ensures.long c.stand_ins.ensures.each
