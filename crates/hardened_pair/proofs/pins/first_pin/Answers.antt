use Rattle.std.proofs.Common.{◌≡◌, ◌+◌, ℕ, sym, ap, ◌∙◌, subst}
use Rattle.std.specs.Prelude.{slice_index}
use Rattle.flat_net.specs.Net.{node_of, pins_at}
use Rattle.feedback_cut.specs.Inner.{node_pins}
use Rattle.hardened_pair.specs.Private.Layouts.{net_of, partitions, voted}
use Rattle.triplicate.specs.Voting.{needs_voter}
use Rattle.triplicate.proofs.Tripled.{needs_from_pin}
use Rattle.triplicate.proofs.TapLaws.{tap_some}
use Rattle.hardened_pair.proofs.pins.first_pin.Goals as goal

pub first_voter-requires-clause-needed : goal.first_voter-requires-clause-needed
first_voter-requires-clause-needed c =
    let v = tap_some (net_of c.args.layout.now) (partitions c.args.layout.now) (voted c.args.layout.now) c.args.y c.args.j c.tap-place.result (c.tap-place.ensures ∙ (c.requires.layout.taps.each c.args.y c.requires.node).each c.args.j c.requires.pin) c.if-place-eq0.false in
    let pin : c.pin-pin.result.0 ≡ slice_index (node_pins (net_of c.args.layout.now) c.args.y) c.args.j = subst (λ (a : ℕ). c.pin-pin.result.0 ≡ slice_index (pins_at (node_of (net_of c.args.layout.now) (a + c.args.y))) c.args.j) c.input_count-inputs.ensures.count c.pin-pin.ensures.value in
    let needed = needs_from_pin (net_of c.args.layout.now) (partitions c.args.layout.now) (voted c.args.layout.now) c.args.y c.args.j c.pin-pin.result.0 c.requires.node (record { pin = c.requires.pin; is = sym pin }) v in
    ap (needs_voter (net_of c.args.layout.now) (partitions c.args.layout.now) (voted c.args.layout.now) c.pin-pin.result.0) c.of-part.ensures.value ∙ needed
