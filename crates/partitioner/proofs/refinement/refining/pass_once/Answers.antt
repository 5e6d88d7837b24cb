use Rattle.std.proofs.Common.{◌≡◌, ◌+◌, ◌∙◌, sym, ap, refl, length, subst, arith}
use Rattle.std.proofs.lemmas.Bool.{true≢false}
use Rattle.tmr_base.specs.Parts.{PlainParts}
use Rattle.partitioner.specs.Refining.{move, moves, IsMinimal}
use Rattle.partitioner.specs.Private.Tracking.{held_parts}
use Rattle.partitioner.proofs.RefineLaws.{moves_none, moves_more, full_moves}
use Rattle.partitioner.proofs.MinimalLaws.{all_stay_minimal, stays_more}
use Rattle.partitioner.proofs.refinement.refining.pass_once.Goals as goal
use Rattle.partitioner.proofs.refinement.refining.pass_once.Goals.{then-branch, else-branch}

pub loop-i-init : goal.loop-i-init
loop-i-init c = record { ready = c.requires.ready; rests = c.requires.rests; parts = sym (moves_none c.args.n.now.net c.args.size (held_parts c.args.p.now)); still = λ h. refl; stays = λ h j l. omega (arith, l) }

pub loop-i-preserved : goal.loop-i-preserved
loop-i-preserved c =
    let n = c.args.n.now.net in
    let before = held_parts c.args.p.now in
    let i = c.loop-i.i in
    let after : held_parts c.move_node.new.p ≡ moves n c.args.size before (i + 1) =
    c.in_ok-move_node.ensures.parts ∙ (ap (λ (parts : PlainParts). move n c.args.size parts i) c.loop-i.invariant.parts ∙ sym (moves_more n c.args.size before i)) in
    elim c.if-branch.branch [
      | then-branch w ↦ record { ready = c.in_ok-move_node.ensures.ready; rests = c.in_ok-move_node.ensures.rests; parts = after; still = λ h. absurd (true≢false (sym w.moved-is ∙ h)); stays = λ h. absurd (true≢false (sym w.moved-is ∙ h)) }
      | else-branch w ↦ record { ready = c.in_ok-move_node.ensures.ready; rests = c.in_ok-move_node.ensures.rests; parts = after; still = λ h. c.in_ok-move_node.ensures.still w.if-branch.false ∙ c.loop-i.invariant.still (sym w.moved-is ∙ h); stays = λ h. stays_more n c.args.size before (held_parts c.loop-i.p) i (c.loop-i.invariant.still (sym w.moved-is ∙ h)) (c.loop-i.invariant.stays (sym w.moved-is ∙ h)) (c.in_ok-move_node.ensures.stays w.if-branch.false) }
    ]

pub returns-then-not-some_room-clause-parts : goal.returns-then-not-some_room-clause-parts
returns-then-not-some_room-clause-parts c =
    sym (full_moves c.args.n.now.net c.args.size (held_parts c.args.p.now) (length c.args.n.now.net.nodes) (c.some_room.ensures c.if-not-some_room.true))

pub returns-then-not-some_room-clause-minimal : goal.returns-then-not-some_room-clause-minimal
returns-then-not-some_room-clause-minimal c = λ h i p l within apart room. absurd (true≢false (sym room ∙ c.some_room.ensures c.if-not-some_room.true p within))

pub returns-clause-minimal : goal.returns-clause-minimal
returns-clause-minimal c = λ h.
    let n = c.args.n.now.net in
    let before = held_parts c.args.p.now in
    subst (λ (ps : PlainParts). IsMinimal n c.args.size ps) (sym (c.loop-i.invariant.still h))
    (all_stay_minimal n c.args.size before (λ i l. c.loop-i.invariant.stays h i (omega (arith, l, c.nodes_of-i-end.ensures.count, c.loop-i-test.false))))
