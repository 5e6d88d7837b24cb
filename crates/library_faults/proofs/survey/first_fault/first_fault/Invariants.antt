use Rattle.std.proofs.Common.{map}
use Rattle.blif_text.specs.Views.{plain_model}
use Rattle.library_faults.specs.Library.{AreFaultless}
use Rattle.library_faults.proofs.survey.first_fault.first_fault.Given as goal

abbrev pub invariant-loop-x : goal.invariant-loop-x
invariant-loop-x l = AreFaultless (map plain_model l.models) l.x-counter
