use Rattle.partitioner.proofs.GainLaws.{IsTurned, held_by}
use Rattle.partitioner.proofs.costs.gains.count_readers.Given as goal

abbrev pub invariant-loop-y : goal.invariant-loop-y
invariant-loop-y l = IsTurned l.initial.gains l.gains l.p.count (held_by l.p.of.items l.y-items l.y-index)
