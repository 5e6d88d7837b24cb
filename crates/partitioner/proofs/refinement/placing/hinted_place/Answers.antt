use Rattle.std.proofs.Common.{◌≡◌, ◌∙◌, ℕ, true, sym, ap}
use Rattle.partitioner.specs.Private.Leading.{is_settled, start_of}
use Rattle.partitioner.proofs.PlaceLaws.{settled_open}
use Rattle.partitioner.proofs.refinement.placing.hinted_place.Goals as goal

pub returns-then-is_settled-clause-place : goal.returns-then-is_settled-clause-place
returns-then-is_settled-clause-place c =
    let settled : is_settled c.args.lead (start_of c.args.mover.now.parts.now c.args.mover.now.node) c.least_hinted-least.result ≡ true = ap (λ (s : ℕ). is_settled c.args.lead s c.least_hinted-least.result) (sym c.part_of-start.ensures.value) ∙ sym c.if-is_settled.ensures in
    settled_open c.args.mover.now.net.now.net c.args.mover.now.size c.args.mover.now.parts.now c.args.mover.now.node c.least_hinted-least.result c.args.lead c.requires.counted.tracks c.requires.counted.node c.requires.lead c.least_hinted-least.ensures settled
