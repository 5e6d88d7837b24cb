use Rattle.std.proofs.Common.{◌∙◌, arith}
use Rattle.triplicate.specs.Planned.{cert_in}
use Rattle.exposure.proofs.Bounds.{sum_more, sum_fits}
use Rattle.sweep.proofs.SweepLaws.{part_near}
use Rattle.sweep.proofs.near.near_parts.Goals as goal

pub overflow_add-total : goal.overflow_add-total
overflow_add-total c =
    let value = c.near_part-total.ensures ∙ part_near c.args.n.now.net c.args.plan.now c.args.counts.now c.args.depths.now c.loop-p.p c.requires.counts c.requires.depths (omega (arith, c.requires.long, c.loop-p-test.true)) in
    omega (arith, sum_fits (cert_in c.args.n.now.net c.args.plan.now) c.loop-p.p c.loop-p.total c.near_part-total.result c.requires.cert c.loop-p.invariant value)

pub loop-p-preserved : goal.loop-p-preserved
loop-p-preserved c =
    let value = c.near_part-total.ensures ∙ part_near c.args.n.now.net c.args.plan.now c.args.counts.now c.args.depths.now c.loop-p.p c.requires.counts c.requires.depths (omega (arith, c.requires.long, c.loop-p-test.true)) in
    sum_more (cert_in c.args.n.now.net c.args.plan.now) c.loop-p.p c.loop-p.total c.near_part-total.result c.loop-p.invariant value
