use Rattle.std.proofs.Common.{◌≡◌, ◌+◌, ◌<◌, ◌≤◌, ◌⊎◌, ℕ, length, get_or, refl, sym, ap, subst, ◌∙◌, arith}
use Rattle.std.specs.Prelude.{slice_index}
use Rattle.std.proofs.lemmas.List.{get_or_default}
use Rattle.feedback_cut.specs.Inner.{node_pins}
use Rattle.triplicate.specs.Pins.{pin_is_voted}
use Rattle.triplicate.specs.Private.Noted.{pins_noted, IsNoting}
use Rattle.triplicate.specs.Taps.{IsTapped}
use Rattle.triplicate.specs.Private.Places.{HasPlaces}
use Rattle.triplicate.specs.declared.taps.Taps.{Taps}
use Rattle.triplicate.proofs.VoterRows.{nodes_none, nodes_step}
use Rattle.triplicate.proofs.TapLaws.{places_kept, tap_room, tapped_kept, tapped_more}
use Rattle.triplicate.proofs.voters.note_members.Goals as goal

pub loop-y-init : goal.loop-y-init
loop-y-init c = record {
  rows = sym (nodes_none c.args.n.now.net c.args.parts.now (pin_is_voted c.args.n.now.net c.args.parts.now c.args.votes.now) c.args.rows.now);
  noting = c.requires.noting;
  places = c.requires.places;
  done = λ k d h. absurd (omega (arith, h));
  kept = λ y h t. t;
}

pub note_pins-requires-clause-room : goal.note_pins-requires-clause-room
note_pins-requires-clause-room c =
    let at : c.index-first.result.now ≡ get_or c.loop-y.taps.firsts.items (get_or c.args.members.now c.loop-y.y-index 0) 0 = c.index-first.ensures ∙ get_or_default c.loop-y.taps.firsts.items (get_or c.args.members.now c.loop-y.y-index 0) c.index-first.result.now 0 (omega (arith, c.requires.nodes c.loop-y.y-index 0 c.loop-y-test.true, c.loop-y.invariant.places.long)) in
    omega (arith, at, tap_room c.args.n.now.net c.args.parts.now (pin_is_voted c.args.n.now.net c.args.parts.now c.args.votes.now) c.loop-y.taps (get_or c.args.members.now c.loop-y.y-index 0) c.loop-y.invariant.places (c.requires.nodes c.loop-y.y-index 0 c.loop-y-test.true))

pub loop-y-preserved : goal.loop-y-preserved
loop-y-preserved c =
    let y : ℕ = (get_or c.args.members.now c.loop-y.y-index 0) in
    let in_range : y < length c.args.n.now.net.nodes = c.requires.nodes c.loop-y.y-index 0 c.loop-y-test.true in
    let new : Taps = record { firsts = c.loop-y.taps.firsts; places = c.note_pins.new.places } in
    let at : c.index-first.result.now ≡ get_or c.loop-y.taps.firsts.items y 0 = c.index-first.ensures ∙ get_or_default c.loop-y.taps.firsts.items y c.index-first.result.now 0 (omega (arith, in_range, c.loop-y.invariant.places.long)) in
    let others : (k : ℕ) → (k < slice_index c.loop-y.taps.firsts.items y) ⊎ (slice_index c.loop-y.taps.firsts.items y + length (node_pins c.args.n.now.net y) ≤ k) → slice_index c.note_pins.new.places.items k ≡ slice_index c.loop-y.taps.places.items k = subst (λ (first : ℕ). (k : ℕ) → (k < first) ⊎ (first + length (node_pins c.args.n.now.net y) ≤ k) → slice_index c.note_pins.new.places.items k ≡ slice_index c.loop-y.taps.places.items k) at c.in_ok-note_pins.ensures.others in
    let places : HasPlaces c.args.n.now.net new = places_kept c.args.n.now.net c.args.parts.now (pin_is_voted c.args.n.now.net c.args.parts.now c.args.votes.now) c.loop-y.taps new refl c.in_ok-note_pins.ensures.long c.loop-y.invariant.places in
    let own : IsTapped c.args.n.now.net c.args.parts.now (pin_is_voted c.args.n.now.net c.args.parts.now c.args.votes.now) new y = record { within = tap_room c.args.n.now.net c.args.parts.now (pin_is_voted c.args.n.now.net c.args.parts.now c.args.votes.now) new y places in_range; each = λ j l. ap (λ (first : ℕ). slice_index c.note_pins.new.places.items (first + j)) (sym at) ∙ c.in_ok-note_pins.ensures.places j l } in
    record {
      rows = c.in_ok-note_pins.ensures.rows ∙ (ap (pins_noted c.args.n.now.net c.args.parts.now (pin_is_voted c.args.n.now.net c.args.parts.now c.args.votes.now) y (length (node_pins c.args.n.now.net y))) c.loop-y.invariant.rows
          ∙ sym (nodes_step c.args.n.now.net c.args.parts.now (pin_is_voted c.args.n.now.net c.args.parts.now c.args.votes.now) c.args.members.now c.loop-y.y-index c.args.rows.now c.loop-y-test.true));
      noting = subst (λ (p : ℕ). IsNoting c.args.n.now.net c.args.parts.now (pin_is_voted c.args.n.now.net c.args.parts.now c.args.votes.now) p c.note_pins.new.rows) (c.requires.own c.loop-y.y-index 0 c.loop-y-test.true) c.in_ok-note_pins.ensures.noting;
      places = places;
      done = tapped_more c.args.n.now.net c.args.parts.now (pin_is_voted c.args.n.now.net c.args.parts.now c.args.votes.now) c.loop-y.taps new c.args.members.now c.loop-y.y-index c.loop-y-test.true c.requires.nodes c.loop-y.invariant.places places others own c.loop-y.invariant.done;
      kept = λ z h t. tapped_kept c.args.n.now.net c.args.parts.now (pin_is_voted c.args.n.now.net c.args.parts.now c.args.votes.now) c.loop-y.taps new y z in_range h c.loop-y.invariant.places places others own (c.loop-y.invariant.kept z h t);
    }
