use Rattle.std.proofs.Common.{ℕ, ◌+◌, sym, ◌∙◌, subst, arith}
use Rattle.partitioner.specs.declared.counts.rows.Level.TheVariants.{Partitions}
use Rattle.partitioner.specs.declared.refinement.placing.Lead.{Lead}
use Rattle.partitioner.specs.Private.Leading.{LeadsOpen}
use Rattle.partitioner.proofs.ScanLaws.{Laned, laned_tried, laned_shut}
use Rattle.partitioner.proofs.refinement.scanning.consider_lanes.Goals as goal
use Rattle.partitioner.proofs.refinement.scanning.consider_lanes.Goals.{then-c-within+then-is_set, else-c-within, else-c-within-via-then-c-within+else-is_set, else-c-within-via-else-c-within}

pub loop-c-preserved : goal.loop-c-preserved
loop-c-preserved c =
    elim c.if-c-within.branch [
      | then-c-within+then-is_set w ↦
          subst (λ (l : Lead). Laned c.args.mover.now.net.now.net c.args.mover.now.size c.args.mover.now.parts.now c.args.mover.now.node c.args.lead Partitions c.args.first l (c.loop-c.c + 1)) (sym w.lead-is)
          (laned_tried c.args.mover.now.net.now.net c.args.mover.now.size c.args.mover.now.parts.now c.args.mover.now.node c.args.lead Partitions c.args.first c.loop-c.lead w.consider-lead.result c.loop-c.c c.loop-c.invariant w.consider-lead.ensures.lead w.consider-lead.ensures.kept
          (λ q within lane. subst (λ (k : ℕ). LeadsOpen c.args.mover.now.net.now.net c.args.mover.now.size c.args.mover.now.parts.now c.args.mover.now.node w.consider-lead.result.place k) (sym lane) w.consider-lead.ensures.tried))
      | else-c-within w ↦
          subst (λ (l : Lead). Laned c.args.mover.now.net.now.net c.args.mover.now.size c.args.mover.now.parts.now c.args.mover.now.node c.args.lead Partitions c.args.first l (c.loop-c.c + 1)) (sym w.lead-is)
          (laned_shut c.args.mover.now.net.now.net c.args.mover.now.size c.args.mover.now.parts.now c.args.mover.now.node c.args.lead Partitions c.args.first c.loop-c.lead c.loop-c.c c.loop-c.invariant
          (elim w.else-c-within.branch [
            | else-c-within-via-then-c-within+else-is_set w' ↦ λ q within lane. c.requires.shut c.loop-c.c q (omega (arith, c.loop-c-test.true)) within lane (sym w'.is_set.ensures ∙ w'.if-is_set.false)
            | else-c-within-via-else-c-within w' ↦ λ q within lane. absurd (omega (arith, within, lane, w'.if-c-within.false, c.requires.block))
          ]))
    ]

pub returns-clause-tried : goal.returns-clause-tried
returns-clause-tried c = λ d q l within lane room. c.loop-c.invariant.tried d q (omega (arith, l, c.loop-c-test.false)) within lane room
