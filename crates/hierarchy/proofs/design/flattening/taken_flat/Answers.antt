use Rattle.std.proofs.Common.{map}
use Rattle.blif_text.specs.Views.{plain_model}
use Rattle.hierarchy.proofs.FlatModels.{keeps_pins, keeps_inputs, keeps_outputs}
use Rattle.hierarchy.proofs.design.flattening.taken_flat.Goals as goal

pub flat_design-requires-clause-pins : goal.flat_design-requires-clause-pins
flat_design-requires-clause-pins c = keeps_pins (map plain_model c.args.models.items) c.args.limit (plain_model c.in_ok-flat.flat) c.in_ok-flat.ensures.model

pub flat_design-requires-clause-inputs : goal.flat_design-requires-clause-inputs
flat_design-requires-clause-inputs c = keeps_inputs (map plain_model c.args.models.items) c.args.limit (plain_model c.in_ok-flat.flat) c.in_ok-flat.ensures.model

pub flat_design-requires-clause-outputs : goal.flat_design-requires-clause-outputs
flat_design-requires-clause-outputs c = keeps_outputs (map plain_model c.args.models.items) c.args.limit (plain_model c.in_ok-flat.flat) c.in_ok-flat.ensures.model
