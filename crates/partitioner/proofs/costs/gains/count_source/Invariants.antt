use Rattle.partitioner.proofs.GainLaws.{IsTurned, met_of}
use Rattle.partitioner.proofs.costs.gains.count_source.Given as goal

abbrev pub invariant-loop-y : goal.invariant-loop-y
invariant-loop-y l = IsTurned l.fn.gains l.gains l.p.count (met_of l.p.of.items l.i l.x l.readers l.y-index)
