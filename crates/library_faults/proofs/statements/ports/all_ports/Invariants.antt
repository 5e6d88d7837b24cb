use Rattle.std.proofs.Common.{◌≡◌, ◌++◌, drop, map}
use Rattle.blif_text.specs.Views.{plain_model}
use Rattle.library_faults.specs.Ports.{ports_of}
use Rattle.library_faults.proofs.statements.ports.all_ports.Given as goal

abbrev pub invariant-loop-model : goal.invariant-loop-model
invariant-loop-model l = l.ports.items ++ map ports_of (map plain_model (drop l.model-index l.models)) ≡ map ports_of (map plain_model l.models)
