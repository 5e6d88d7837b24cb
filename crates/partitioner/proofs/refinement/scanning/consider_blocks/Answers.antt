use Rattle.std.proofs.Common.{◌+◌, ◌-◌, ◌*◌, ◌/◌, ◌<◌, ◌≤◌, ◌⊎◌, inl, inr, ℕ, arith}
use Rattle.std.proofs.lemmas.Bool.{cases_lt}
use Rattle.partitioner.specs.Private.Leading.{LeadsOpen}
use Rattle.partitioner.proofs.refinement.scanning.consider_blocks.Goals as goal

pub loop-g-preserved : goal.loop-g-preserved
loop-g-preserved c = record { lead = c.consider_group-lead.ensures.lead; tried = λ q l within. at q l within (cases_lt q (c.loop-g.g * 4096)) }
  where
    at : (q : ℕ) → q < (c.loop-g.g + 1) * 4096 → q < c.args.mover.now.parts.now.count → (q < c.loop-g.g * 4096) ⊎ (c.loop-g.g * 4096 ≤ q) → LeadsOpen c.args.mover.now.net.now.net c.args.mover.now.size c.args.mover.now.parts.now c.args.mover.now.node c.consider_group-lead.result.place q
    at q l within (inl before) = λ room. c.consider_group-lead.ensures.kept q (c.loop-g.invariant.tried q before within room)
    at q l within (inr from) = c.consider_group-lead.ensures.tried (q / 64 - c.loop-g.g * 64) q (omega (arith, l, from)) within (omega (arith, l, from))
