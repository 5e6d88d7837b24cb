use Rattle.std.proofs.Common.{◌≡◌, ℕ, ◌<◌, ◌∙◌, true, false, not, Bool, List, length, get_or, refl, sym, ap, subst, arith}
use Rattle.std.specs.List.{All}
use Rattle.std.proofs.lemmas.Bool.{true≢false}
use Rattle.tmr_base.specs.Parts.{PlainParts}
use Rattle.node_reads.specs.Sources.{is_wide, wide_sources}
use Rattle.partitioner.specs.Private.Sets.{has}
use Rattle.partitioner.specs.Refining.{has_room, put}
use Rattle.partitioner.specs.Private.Tracking.{held_parts}
use Rattle.partitioner.specs.Private.Spotting.{AreSpots}
use Rattle.node_reads.proofs.WideRows.{wide_below, wide_pass}
use Rattle.partitioner.proofs.SpotLaws.{NotesMoved, spots_moved}
use Rattle.partitioner.proofs.refinement.moving.move_to.Goals as goal

pub note_spots-requires-clause-row : goal.note_spots-requires-clause-row
note_spots-requires-clause-row c =
    let row : c.row.result.now ≡ wide_sources c.args.n.now.net c.args.i = c.row.ensures ∙ c.in_ok-put_node.ensures.tracks.wide c.args.i c.requires.node in
    subst (λ (bound : ℕ). All (λ x. x < bound) c.row.result.now) (sym c.requires.spots.free_long)
    (subst (λ (xs : List ℕ). All (λ x. x < length c.args.n.now.net.nodes) xs) (sym row) (wide_below c.args.n.now.net c.args.i))

pub leave_spots-requires-clause-spots : goal.leave_spots-requires-clause-spots
leave_spots-requires-clause-spots c =
    let n = c.args.n.now.net in
    let parts = held_parts c.args.p.now in
    let row : c.row.result.now ≡ wide_sources n c.args.i = c.row.ensures ∙ c.in_ok-put_node.ensures.tracks.wide c.args.i c.requires.node in
    let notes : NotesMoved n c.args.i c.args.b c.args.spots.now c.note_spots.new.spots = record {
      free_long = c.in_ok-note_spots.ensures.kept.free_long;
      nets_long = c.in_ok-note_spots.ensures.kept.nets_long;
      free_kept = c.in_ok-note_spots.ensures.kept.free_kept;
      nets_kept = c.in_ok-note_spots.ensures.kept.nets_kept;
      free = subst (λ (xs : List ℕ). All (λ x. has c.note_spots.new.spots.free x c.args.b ≡ true) xs) row c.in_ok-note_spots.ensures.free;
      nets = subst (λ (xs : List ℕ). All (λ x. has c.note_spots.new.spots.nets c.args.b x ≡ true) xs) row c.in_ok-note_spots.ensures.nets;
    } in
    subst (λ (after : PlainParts). AreSpots n c.args.size after (record { free = c.shut_spots.new.free; nets = c.note_spots.new.spots.nets })) (sym c.in_ok-put_node.ensures.parts)
    (spots_moved n c.args.size parts c.args.i c.args.b c.args.spots.now c.note_spots.new.spots c.open_spots.new.free c.shut_spots.new.free (omega (arith, c.requires.tracks.long, c.requires.node)) c.requires.node c.requires.partition c.requires.apart c.requires.spots notes
    c.in_ok-open_spots.ensures.long c.in_ok-open_spots.ensures.kept
    (λ shut x l h. subst (λ (a : ℕ). has c.open_spots.new.free x a ≡ true) c.part_of-a.ensures.value
    (c.in_ok-open_spots.ensures.opened (full shut) x (omega (arith, l, c.nodes_of-nodes.ensures.count)) (subst (λ (a : ℕ). has c.note_spots.new.spots.nets a x ≡ true) (sym c.part_of-a.ensures.value) h)))
    c.shut_spots.ensures.long
    (λ z r room h. c.shut_spots.ensures.kept z r (λ is_full e. true≢false (sym room ∙ (ap (has_room c.args.size (put parts c.args.i c.args.b)) (sym e) ∙ (sym (ap (λ (after : PlainParts). has_room c.args.size after c.args.b) c.in_ok-put_node.ensures.parts) ∙ (sym c.has_room-is_full.ensures ∙ no c.has_room-is_full.result is_full))))) h))
  where
    no : (b : Bool) → not b ≡ true → b ≡ false
    no true e = absurd (true≢false (sym e))
    no false e = refl

    yes : (b : Bool) → b ≡ false → not b ≡ true
    yes true e = absurd (true≢false e)
    yes false e = refl

    full : has_room c.args.size (held_parts c.args.p.now) (get_or c.args.p.now.of.items c.args.i 0) ≡ false → not c.has_room-was_full.result ≡ true
    full shut = yes c.has_room-was_full.result (c.has_room-was_full.ensures ∙ (ap (has_room c.args.size (held_parts c.args.p.now)) c.part_of-a.ensures.value ∙ shut))

pub leave_spots-requires-clause-row : goal.leave_spots-requires-clause-row
leave_spots-requires-clause-row c =
    let row : c.row-2.result.now ≡ wide_sources c.args.n.now.net c.args.i = c.row-2.ensures ∙ c.in_ok-put_node.ensures.tracks.wide c.args.i c.requires.node in
    subst (λ (xs : List ℕ). All (λ x. x < length c.args.n.now.net.nodes) xs) (sym row) (wide_below c.args.n.now.net c.args.i)

pub leave_spots-requires-clause-wide : goal.leave_spots-requires-clause-wide
leave_spots-requires-clause-wide c =
    let row : c.row-2.result.now ≡ wide_sources c.args.n.now.net c.args.i = c.row-2.ensures ∙ c.in_ok-put_node.ensures.tracks.wide c.args.i c.requires.node in
    subst (λ (xs : List ℕ). All (λ x. is_wide c.args.n.now.net x ≡ true) xs) (sym row) (wide_pass c.args.n.now.net c.args.i)
