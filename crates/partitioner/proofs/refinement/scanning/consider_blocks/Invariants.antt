use Rattle.std.proofs.Common.{◌*◌, ◌<◌, ℕ}
use Rattle.partitioner.specs.Private.Leading.{IsLead, LeadsOpen}
use Rattle.partitioner.proofs.refinement.scanning.consider_blocks.Given as goal

abbrev pub invariant-loop-g : goal.invariant-loop-g
invariant-loop-g l = record {
  lead : IsLead l.mover.net.now.net l.mover.size l.mover.parts.now l.mover.node l.lead;
  tried : (q : ℕ) → q < l.g * 4096 → q < l.mover.parts.now.count → LeadsOpen l.mover.net.now.net l.mover.size l.mover.parts.now l.mover.node l.lead.place q;
}
