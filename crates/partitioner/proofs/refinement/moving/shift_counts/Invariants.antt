use Rattle.node_reads.specs.Private.Marking.{marked_by_row}
use Rattle.partitioner.specs.Private.Counting.{count_at}
use Rattle.partitioner.specs.Private.Moving.{Shifts}
use Rattle.partitioner.proofs.refinement.moving.shift_counts.Given as goal

abbrev pub invariant-loop-x : goal.invariant-loop-x
invariant-loop-x l = Shifts (count_at l.initial.counts) (count_at l.counts) (marked_by_row l.row l.x-index) l.a l.b
