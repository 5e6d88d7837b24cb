use Rattle.std.proofs.Common.{◌≡◌, ◌++◌, drop, map}
use Rattle.blif_text.specs.Views.{plain_model}
use Rattle.library_faults.specs.Graph.{placed_of}
use Rattle.library_faults.proofs.survey.placings.graph_of.Given as goal

abbrev pub invariant-loop-model : goal.invariant-loop-model
invariant-loop-model l = l.graph ++ map (placed_of l.names.keys) (map plain_model (drop l.model-index l.models)) ≡ map (placed_of l.names.keys) (map plain_model l.models)
