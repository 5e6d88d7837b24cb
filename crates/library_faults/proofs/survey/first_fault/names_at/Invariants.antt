use Rattle.std.proofs.Common.{◌≡◌, take}
use Rattle.library_faults.specs.Library.{picked}
use Rattle.library_faults.proofs.survey.first_fault.names_at.Given as goal

abbrev pub invariant-loop-x : goal.invariant-loop-x
invariant-loop-x l = l.found.items ≡ picked l.names (take l.x-index l.models)
