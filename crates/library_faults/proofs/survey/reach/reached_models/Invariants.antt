use Rattle.std.proofs.Common.{◌-◌, length}
use Rattle.library_faults.proofs.Reaching.{IsReaching}
use Rattle.library_faults.proofs.survey.reach.reached_models.Given as goal

abbrev pub invariant-loop-at : goal.invariant-loop-at
invariant-loop-at l = IsReaching l.graph l.at l.reached.keys

abbrev pub decreases-loop-at : goal.decreases-loop-at
decreases-loop-at l = length l.graph - l.at
