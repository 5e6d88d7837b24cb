use Rattle.std.proofs.Common.{◌≡◌, ◌++◌, map, drop}
use Rattle.blif_text.specs.Views.{plain_model}
use Rattle.hierarchy.proofs.design.copies.copy_models.Given as goal

abbrev pub invariant-loop-model : goal.invariant-loop-model
invariant-loop-model l = map plain_model l.copies.items ++ map plain_model (drop l.model-index l.models) ≡ map plain_model l.models
