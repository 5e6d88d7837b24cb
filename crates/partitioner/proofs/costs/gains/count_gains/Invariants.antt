use Rattle.partitioner.proofs.GainLaws.{Gained}
use Rattle.partitioner.proofs.costs.gains.count_gains.Given as goal

abbrev pub invariant-loop-x : goal.invariant-loop-x
invariant-loop-x l = Gained l.n.net l.p l.i l.row l.gains l.x-index
