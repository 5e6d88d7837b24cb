use Rattle.partitioner.proofs.ScanLaws.{LanesCounted}
use Rattle.partitioner.proofs.refinement.scanning.counted_lanes.Given as goal

abbrev pub invariant-loop-j : goal.invariant-loop-j
invariant-loop-j l = LanesCounted l.n.net l.p l.i l.gains l.level l.w l.bias l.lanes l.j
