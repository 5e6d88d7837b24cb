use Rattle.std.proofs.Common.{◌<◌, ℕ, List, refl, sym, ap, subst, arith}
use Rattle.tmr_base.specs.Parts.{PlainParts}
use Rattle.partitioner.specs.Private.Tracking.{held_parts}
use Rattle.partitioner.specs.Private.Resting.{Rests}
use Rattle.partitioner.proofs.PlaceLaws.{content_stays}
use Rattle.partitioner.proofs.RefineLaws.{place_in_range, move_stays}
use Rattle.partitioner.proofs.RestLaws.{rests_moved, rests_noted}
use Rattle.partitioner.proofs.refinement.refining.move_node.Goals as goal

pub move_to-requires-clause-partition : goal.move_to-requires-clause-partition
move_to-requires-clause-partition c =
    let p = c.args.p.now in
    subst (λ (q : ℕ). q < p.count) (sym c.place_of-found.ensures.place)
    (place_in_range c.args.n.now.net c.args.size (held_parts p) c.args.i (omega (arith, c.part_of.ensures.range, c.part_of.ensures.value)))

pub returns-then-is_resting-clause-stays : goal.returns-then-is_resting-clause-stays
returns-then-is_resting-clause-stays c = λ e.
    let rests = c.if-is_resting.ensures.0 refl in
    content_stays c.args.n.now.net c.args.size c.args.p.now c.args.i c.requires.ready.tracks c.requires.node (c.requires.rests.content c.args.i c.requires.node rests)

pub returns-then-is_resting-clause-parts : goal.returns-then-is_resting-clause-parts
returns-then-is_resting-clause-parts c =
    let rests = c.if-is_resting.ensures.0 refl in
    sym (move_stays c.args.n.now.net c.args.size (held_parts c.args.p.now) c.args.i
    (content_stays c.args.n.now.net c.args.size c.args.p.now c.args.i c.requires.ready.tracks c.requires.node (c.requires.rests.content c.args.i c.requires.node rests)))

pub returns-then-found-clause-stays : goal.returns-then-found-clause-stays
returns-then-found-clause-stays c = λ e.
    content_stays c.args.n.now.net c.args.size c.args.p.now c.args.i c.requires.ready.tracks c.requires.node (c.place_of-found.ensures.content c.if-found.true)

pub returns-then-found-clause-parts : goal.returns-then-found-clause-parts
returns-then-found-clause-parts c =
    sym (move_stays c.args.n.now.net c.args.size (held_parts c.args.p.now) c.args.i
    (content_stays c.args.n.now.net c.args.size c.args.p.now c.args.i c.requires.ready.tracks c.requires.node (c.place_of-found.ensures.content c.if-found.true)))

pub returns-then-found-clause-rests : goal.returns-then-found-clause-rests
returns-then-found-clause-rests c =
    rests_noted c.args.n.now.net c.args.p.now.of.items c.args.i c.args.rest.now c.note_rest.new.rest c.requires.node (c.place_of-found.ensures.content c.if-found.true) c.requires.rests c.note_rest.ensures.clock c.note_rest.ensures.changed c.note_rest.ensures.rested

pub returns-clause-rests : goal.returns-clause-rests
returns-clause-rests c =
    subst (λ (of : List ℕ). Rests c.args.n.now.net of c.note_move.new.rest) (sym (ap (λ (parts : PlainParts). parts.of) c.in_ok-move_to.ensures.parts))
    (rests_moved c.args.n.now.net c.args.p.now.of.items c.args.i c.place_of-found.result.place c.args.rest.now c.note_move.new.rest c.note_move.ensures.dated c.note_move.ensures.kept c.note_move.ensures.apart c.requires.rests)
