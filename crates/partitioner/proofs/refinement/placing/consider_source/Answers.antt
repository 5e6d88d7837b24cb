use Rattle.std.proofs.Common.{ℕ, subst}
use Rattle.partitioner.specs.Private.Leading.{LeadsOpen, start_of}
use Rattle.partitioner.proofs.PlaceLaws.{kept_loses}
use Rattle.partitioner.proofs.refinement.placing.consider_source.Goals as goal

pub consider_spots-requires-clause-least : goal.consider_spots-requires-clause-least
consider_spots-requires-clause-least c = λ q h room.
    kept_loses c.args.mover.now.net.now.net c.args.mover.now.parts.now c.args.mover.now.node c.args.lead.place c.consider-lead.result.place c.args.tried q c.consider-lead.ensures.kept (c.requires.least q h room)

pub returns-then-is_wide-clause-own : goal.returns-then-is_wide-clause-own
returns-then-is_wide-clause-own c = λ room.
    c.consider_spots.ensures.kept (start_of c.args.mover.now.parts.now c.args.x)
    (subst (λ (q : ℕ). LeadsOpen c.args.mover.now.net.now.net c.args.mover.now.size c.args.mover.now.parts.now c.args.mover.now.node c.consider-lead.result.place q) c.part_of.ensures.value c.consider-lead.ensures.tried room)

pub returns-else-is_wide-clause-own : goal.returns-else-is_wide-clause-own
returns-else-is_wide-clause-own c = λ room.
    c.consider_readers.ensures.kept (start_of c.args.mover.now.parts.now c.args.x)
    (subst (λ (q : ℕ). LeadsOpen c.args.mover.now.net.now.net c.args.mover.now.size c.args.mover.now.parts.now c.args.mover.now.node c.consider-lead.result.place q) c.part_of.ensures.value c.consider-lead.ensures.tried room)
