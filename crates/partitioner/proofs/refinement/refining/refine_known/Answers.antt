use Rattle.std.proofs.Common.{ℕ, ◌<◌, length, get_or, sym, ◌∙◌, ap, subst, arith}
use Rattle.tmr_base.specs.Parts.{PlainParts}
use Rattle.partitioner.specs.Reads.{AreReads}
use Rattle.partitioner.specs.Refining.{refined, IsMinimal}
use Rattle.partitioner.specs.Private.Tracking.{placed_parts}
use Rattle.partitioner.proofs.RefineLaws.{fixed_refined, fixed_minimal}
use Rattle.partitioner.proofs.refinement.refining.refine_known.Goals as goal

pub returns-then-not-may_move-clause-exact : goal.returns-then-not-may_move-clause-exact
returns-then-not-may_move-clause-exact c =
    let start = placed_parts c.in_ok-start.start in
    let within : (i : ℕ) → i < length c.args.n.now.net.nodes → get_or start.of i 0 < start.count = λ i l. c.in_ok-start.ensures.placed.in_range i 0 (omega (arith, c.in_ok-start.ensures.placed.long, l)) in
    c.unmoved.ensures.parts
    ∙ (sym (fixed_refined c.args.n.now.net c.args.size start c.args.passes within (c.may_move.ensures c.if-not-may_move.true))
    ∙ ap (λ (parts : PlainParts). refined c.args.n.now.net c.args.size parts c.args.passes) c.in_ok-start.ensures.parts)

pub returns-then-not-may_move-clause-minimal : goal.returns-then-not-may_move-clause-minimal
returns-then-not-may_move-clause-minimal c =
    let start = placed_parts c.in_ok-start.start in
    let within : (i : ℕ) → i < length c.args.n.now.net.nodes → get_or start.of i 0 < start.count = λ i l. c.in_ok-start.ensures.placed.in_range i 0 (omega (arith, c.in_ok-start.ensures.placed.long, l)) in (
      λ h. subst (λ (parts : PlainParts). IsMinimal c.args.n.now.net c.args.size parts) (sym c.unmoved.ensures.parts) (fixed_minimal c.args.n.now.net c.args.size start within (c.may_move.ensures c.if-not-may_move.true)),
      λ h. c.unmoved.ensures.minimal,
    )

pub returns-then-not-may_move-clause-reads : goal.returns-then-not-may_move-clause-reads
returns-then-not-may_move-clause-reads c = subst (AreReads c.args.n.now.net) (sym c.unmoved.ensures.reads) c.in_ok-start.ensures.placed.reads
