use Rattle.std.proofs.Common.{◌≡◌, ◌+◌, ◌<◌, ℕ, length, refl, sym, ap, subst, ◌∙◌, arith}
use Rattle.std.proofs.lemmas.List.{length-set}
use Rattle.flat_net.specs.Net.{node_of, pins_at}
use Rattle.feedback_cut.specs.Inner.{node_pins}
use Rattle.triplicate.specs.Pins.{pin_is_voted}
use Rattle.triplicate.specs.Private.Noted.{pin_noted}
use Rattle.triplicate.specs.Taps.{tap_of}
use Rattle.triplicate.proofs.VoterRows.{pins_none, pins_step}
use Rattle.triplicate.proofs.TapLaws.{places_more, places_others}
use Rattle.triplicate.proofs.voters.note_pins.Goals as goal

pub loop-j-init : goal.loop-j-init
loop-j-init c = record {
  rows = sym (pins_none c.args.n.now.net c.args.parts.now (pin_is_voted c.args.n.now.net c.args.parts.now c.args.votes.now) c.args.y c.args.rows.now);
  long = refl;
  done = λ i h. absurd (omega (arith, h));
  others = λ k h. refl;
  noting = c.requires.noting;
}

pub loop-j-preserved : goal.loop-j-preserved
loop-j-preserved c =
    let pins : c.pin_count-j-end.result ≡ length (node_pins c.args.n.now.net c.args.y) = subst (λ (a : ℕ). c.pin_count-j-end.result ≡ length (pins_at (node_of c.args.n.now.net (a + c.args.y)))) c.input_count.ensures.count c.pin_count-j-end.ensures in
    let below : c.loop-j.j < length (node_pins c.args.n.now.net c.args.y) = omega (arith, pins, c.loop-j-test.true) in
    let room : c.args.first + c.loop-j.j < length c.loop-j.places.items = omega (arith, below, c.requires.room, c.loop-j.invariant.long) in
    record {
      rows = c.in_ok-note_pin.ensures.rows ∙ (ap (pin_noted c.args.n.now.net c.args.parts.now (pin_is_voted c.args.n.now.net c.args.parts.now c.args.votes.now) c.args.y c.loop-j.j) c.loop-j.invariant.rows ∙ sym (pins_step c.args.n.now.net c.args.parts.now (pin_is_voted c.args.n.now.net c.args.parts.now c.args.votes.now) c.args.y c.loop-j.j c.args.rows.now));
      long = ap length c.in_ok-note_pin.ensures.places ∙ (length-set c.loop-j.places.items (c.args.first + c.loop-j.j) (tap_of c.args.n.now.net c.args.parts.now (pin_is_voted c.args.n.now.net c.args.parts.now c.args.votes.now) c.args.y c.loop-j.j) ∙ c.loop-j.invariant.long);
      done = places_more (tap_of c.args.n.now.net c.args.parts.now (pin_is_voted c.args.n.now.net c.args.parts.now c.args.votes.now) c.args.y) c.loop-j.places.items c.note_pin.new.places.items c.args.first c.loop-j.j room c.in_ok-note_pin.ensures.places c.loop-j.invariant.done;
      others = places_others c.loop-j.places.items c.note_pin.new.places.items c.args.places.now.items c.args.first (length (node_pins c.args.n.now.net c.args.y)) c.loop-j.j _ below c.in_ok-note_pin.ensures.places c.loop-j.invariant.others;
      noting = c.in_ok-note_pin.ensures.noting;
    }
