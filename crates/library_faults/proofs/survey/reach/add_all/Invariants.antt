use Rattle.std.proofs.Common.{take}
use Rattle.library_faults.specs.Private.Growth.{Gains}
use Rattle.library_faults.proofs.survey.reach.add_all.Given as goal

abbrev pub invariant-loop-x : goal.invariant-loop-x
invariant-loop-x l = Gains l.fn.reached.keys (take l.x-index l.row) l.reached.keys
