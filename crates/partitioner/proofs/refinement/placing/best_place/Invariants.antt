use Rattle.std.proofs.Common.{◌≡◌, ◌+◌}
use Rattle.partitioner.specs.Private.Hinting.{AreHints}
use Rattle.partitioner.specs.Private.Leading.{IsLead}
use Rattle.partitioner.proofs.PlaceLaws.{LeadsOrMissed}
use Rattle.partitioner.proofs.refinement.placing.best_place.Given as goal

abbrev pub invariant-loop-x : goal.invariant-loop-x
invariant-loop-x l =
    IsLead l.mover.net.now.net l.mover.size l.mover.parts.now l.mover.node l.lead × LeadsOrMissed l.mover.net.now.net l.mover.size l.mover.parts.now l.mover.node l.lead.place l.x-items l.x-index × (l.tried ≡ l.x-index + 1) × AreHints l.mover.net.now.net l.mover.size l.mover.parts.now l.mover.node l.mover.gains.now l.hints
