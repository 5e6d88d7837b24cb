use Rattle.partitioner.specs.declared.counts.rows.Level.TheVariants.{Partitions}
use Rattle.partitioner.proofs.ScanLaws.{Laned}
use Rattle.partitioner.proofs.refinement.scanning.consider_lanes.Given as goal

abbrev pub invariant-loop-c : goal.invariant-loop-c
invariant-loop-c l = Laned l.mover.net.now.net l.mover.size l.mover.parts.now l.mover.node l.fn.lead Partitions l.first l.lead l.c
