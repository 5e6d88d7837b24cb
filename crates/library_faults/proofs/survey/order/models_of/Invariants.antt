use Rattle.std.proofs.Common.{◌≡◌, take}
use Rattle.library_faults.proofs.survey.order.models_of.Given as goal

abbrev pub invariant-loop-x : goal.invariant-loop-x
invariant-loop-x l = l.models.items ≡ take l.x-index l.vertices
