use Rattle.std.proofs.Common.{◌≡◌, ◌++◌, drop, map}
use Rattle.blif_text.specs.Views.{plain_model}
use Rattle.library_faults.specs.Graph.{names_of}
use Rattle.library_faults.proofs.survey.model_names.model_names.Given as goal

abbrev pub invariant-loop-model : goal.invariant-loop-model
invariant-loop-model l = l.names.keys ++ names_of (map plain_model (drop l.model-index l.models)) ≡ names_of (map plain_model l.models)
