use Rattle.std.proofs.Common.{sym, subst}
use Rattle.std.proofs.Math.Path.{subst₂}
use Rattle.blif_text.specs.Views.{plain_model}
use Rattle.flat_net.specs.Free.{FreeDesign, AreMarks}
use Rattle.hierarchy.specs.Flatten.{IsFreeFlat}
use Rattle.hierarchy.proofs.Marks.{marks_fit}
use Rattle.hierarchy.proofs.FlatModels.{model_design}
use Rattle.hierarchy.proofs.design.flattening.flat_design.Goals as goal

pub make-requires : goal.make-requires
make-requires c = subst₂ AreMarks (sym c.in-Ok.ensures.ok) (sym c.in_ok-marks.ensures) (marks_fit (plain_model c.args.flat))

pub returns-in-Ok-clause-ok : goal.returns-in-Ok-clause-ok
returns-in-Ok-clause-ok c = λ library flat.
    subst (λ (d : FreeDesign). IsFreeFlat library c.args.limit d.design.net d.free) (sym c.make.ensures)
    (model_design library c.args.limit (plain_model c.args.flat) c.in-Ok.net.net c.in_ok-marks.marks.items flat c.in-Ok.ensures.faultless c.in-Ok.ensures.ok c.in_ok-marks.ensures)
