use Rattle.std.proofs.Common.{◌≤◌, sym, subst}
use Rattle.tmr_base.specs.Parts.{PlainParts}
use Rattle.partitioner.specs.Cost.{cost}
use Rattle.partitioner.specs.Sizes.{KeepsSize}
use Rattle.partitioner.proofs.RefineLaws.{refined_keeps, refined_cost}
use Rattle.partitioner.proofs.refinement.refining.refine.Goals as goal

pub returns-clause-size : goal.returns-clause-size
returns-clause-size c =
    subst (λ (after : PlainParts). KeepsSize c.args.n.now.net c.args.size after) (sym c.in_ok-refined.ensures.exact) (refined_keeps c.args.n.now.net c.args.size c.args.parts c.args.passes c.requires.parts)

pub returns-clause-cost : goal.returns-clause-cost
returns-clause-cost c =
    subst (λ (after : PlainParts). cost c.args.n.now.net after ≤ cost c.args.n.now.net c.args.parts) (sym c.in_ok-refined.ensures.exact) (refined_cost c.args.n.now.net c.args.size c.args.parts c.args.passes)
