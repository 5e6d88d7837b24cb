use Rattle.std.proofs.Common.{◌+◌, ◌%◌, sym, ◌∙◌, subst, arith}
use Rattle.partitioner.specs.declared.counts.rows.Level.TheVariants.{Blocks}
use Rattle.partitioner.specs.declared.refinement.placing.Lead.{Lead}
use Rattle.partitioner.proofs.ScanLaws.{Laned, laned_tried, laned_shut}
use Rattle.partitioner.proofs.refinement.scanning.consider_chosen.Goals as goal
use Rattle.partitioner.proofs.refinement.scanning.consider_chosen.Goals.{then-c-within+then-is_set, else-c-within, else-c-within-via-then-c-within+else-is_set, else-c-within-via-else-c-within}

pub loop-c-preserved : goal.loop-c-preserved
loop-c-preserved c =
    elim c.if-c-within.branch [
      | then-c-within+then-is_set w ↦
          subst (λ (l : Lead). Laned c.args.mover.now.net.now.net c.args.mover.now.size c.args.mover.now.parts.now c.args.mover.now.node c.args.lead Blocks c.args.first l (c.loop-c.c + 1)) (sym w.lead-is)
          (laned_tried c.args.mover.now.net.now.net c.args.mover.now.size c.args.mover.now.parts.now c.args.mover.now.node c.args.lead Blocks c.args.first c.loop-c.lead w.consider_block-lead.result c.loop-c.c c.loop-c.invariant w.consider_block-lead.ensures.lead w.consider_block-lead.ensures.kept
          (λ q within lane. w.consider_block-lead.ensures.tried (q % 64) q (omega arith) within (omega (arith, lane))))
      | else-c-within w ↦
          subst (λ (l : Lead). Laned c.args.mover.now.net.now.net c.args.mover.now.size c.args.mover.now.parts.now c.args.mover.now.node c.args.lead Blocks c.args.first l (c.loop-c.c + 1)) (sym w.lead-is)
          (laned_shut c.args.mover.now.net.now.net c.args.mover.now.size c.args.mover.now.parts.now c.args.mover.now.node c.args.lead Blocks c.args.first c.loop-c.lead c.loop-c.c c.loop-c.invariant
          (elim w.else-c-within.branch [
            | else-c-within-via-then-c-within+else-is_set w' ↦ λ q within lane. c.requires.shut c.loop-c.c q (omega (arith, c.loop-c-test.true)) within lane (sym w'.is_set.ensures ∙ w'.if-is_set.false)
            | else-c-within-via-else-c-within w' ↦ λ q within lane. absurd (omega (arith, within, lane, w'.if-c-within.false, c.requires.block))
          ]))
    ]

pub returns-clause-tried : goal.returns-clause-tried
returns-clause-tried c = λ d q l within lane room. c.loop-c.invariant.tried d q (omega (arith, l, c.loop-c-test.false)) within lane room
