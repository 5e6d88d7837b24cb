use Rattle.std.proofs.Common.{◌≡◌, ◌+◌, [], ℕ, suc, List, length, get_or, set, true, false, sym, ap, subst, ◌∙◌, rules, arith}
use Rattle.std.specs.Prelude.{slice_index}
use Rattle.flat_net.specs.Net.{node_of, pins_at}
use Rattle.feedback_cut.specs.Inner.{node_pins}
use Rattle.triplicate.specs.Pins.{pin_is_voted}
use Rattle.triplicate.specs.Private.Noted.{IsNoting}
use Rattle.triplicate.specs.Numbers.{voter_rank}
use Rattle.triplicate.proofs.VoterRows.{pin_passed, pin_is_noted}
use Rattle.triplicate.proofs.TapLaws.{noting_more, noted_place, rank_few, tap_is}
use Rattle.triplicate.proofs.voters.note_pin.Goals as goal

pub returns-then-not-is_voted-clause-rows : goal.returns-then-not-is_voted-clause-rows
returns-then-not-is_voted-clause-rows c =
    let v : pin_is_voted c.args.n.now.net c.args.parts.now c.args.votes.now c.args.reader.node c.args.reader.pin ≡ false = search rules in
    pin_passed c.args.n.now.net c.args.parts.now (pin_is_voted c.args.n.now.net c.args.parts.now c.args.votes.now) c.args.reader.node c.args.reader.pin c.args.rows.now v

pub returns-clause-rows : goal.returns-clause-rows
returns-clause-rows c =
    let v : pin_is_voted c.args.n.now.net c.args.parts.now c.args.votes.now c.args.reader.node c.args.reader.pin ≡ true = search rules in
    let pin : c.pin-pin.result.0 ≡ slice_index (node_pins c.args.n.now.net c.args.reader.node) c.args.reader.pin = subst (λ (a : ℕ). c.pin-pin.result.0 ≡ slice_index (pins_at (node_of c.args.n.now.net (a + c.args.reader.node))) c.args.reader.pin) c.input_count-inputs.ensures.count c.pin-pin.ensures.value in
    c.in_ok-note.ensures.rows ∙ pin_is_noted c.args.n.now.net c.args.parts.now (pin_is_voted c.args.n.now.net c.args.parts.now c.args.votes.now) c.args.reader.node c.args.reader.pin _ _ c.args.rows.now v pin c.of-part.ensures.value

pub overflow_cast-count : goal.overflow_cast-count
overflow_cast-count c =
    let noting : IsNoting c.args.n.now.net c.args.parts.now (pin_is_voted c.args.n.now.net c.args.parts.now c.args.votes.now) c.of-part.result c.args.rows.now = subst (λ (p : ℕ). IsNoting c.args.n.now.net c.args.parts.now (pin_is_voted c.args.n.now.net c.args.parts.now c.args.votes.now) p c.args.rows.now) (sym c.of-part.ensures.value) c.requires.noting in
    let place : c.count.result ≡ suc (voter_rank c.args.n.now.net c.args.parts.now (pin_is_voted c.args.n.now.net c.args.parts.now c.args.votes.now) c.pin-pin.result.0 c.of-part.result) = c.count.ensures
    ∙ (ap (λ (rs : List (List ℕ)). length (get_or rs c.pin-pin.result.0 [])) c.in_ok-note.ensures.rows ∙ noted_place c.args.n.now.net c.args.parts.now (pin_is_voted c.args.n.now.net c.args.parts.now c.args.votes.now) c.of-part.result c.pin-pin.result.0 c.args.rows.now noting c.pin-pin.ensures.range) in
    let few = rank_few c.args.n.now.net c.args.parts.now (pin_is_voted c.args.n.now.net c.args.parts.now c.args.votes.now) c.pin-pin.result.0 c.of-part.result in
    omega (arith, place, few, c.of-part.ensures.range, c.count-count.ensures)

pub returns-clause-places : goal.returns-clause-places
returns-clause-places c =
    let v : pin_is_voted c.args.n.now.net c.args.parts.now c.args.votes.now c.args.reader.node c.args.reader.pin ≡ true = search rules in
    let pin : c.pin-pin.result.0 ≡ slice_index (node_pins c.args.n.now.net c.args.reader.node) c.args.reader.pin = subst (λ (a : ℕ). c.pin-pin.result.0 ≡ slice_index (pins_at (node_of c.args.n.now.net (a + c.args.reader.node))) c.args.reader.pin) c.input_count-inputs.ensures.count c.pin-pin.ensures.value in
    let noting : IsNoting c.args.n.now.net c.args.parts.now (pin_is_voted c.args.n.now.net c.args.parts.now c.args.votes.now) c.of-part.result c.args.rows.now = subst (λ (p : ℕ). IsNoting c.args.n.now.net c.args.parts.now (pin_is_voted c.args.n.now.net c.args.parts.now c.args.votes.now) p c.args.rows.now) (sym c.of-part.ensures.value) c.requires.noting in
    let place : c.count.result ≡ suc (voter_rank c.args.n.now.net c.args.parts.now (pin_is_voted c.args.n.now.net c.args.parts.now c.args.votes.now) c.pin-pin.result.0 c.of-part.result) = c.count.ensures
    ∙ (ap (λ (rs : List (List ℕ)). length (get_or rs c.pin-pin.result.0 [])) c.in_ok-note.ensures.rows ∙ noted_place c.args.n.now.net c.args.parts.now (pin_is_voted c.args.n.now.net c.args.parts.now c.args.votes.now) c.of-part.result c.pin-pin.result.0 c.args.rows.now noting c.pin-pin.ensures.range) in
    ap (λ (k : ℕ). set c.args.places.now.items c.args.at k) (place ∙ tap_is c.args.n.now.net c.args.parts.now (pin_is_voted c.args.n.now.net c.args.parts.now c.args.votes.now) c.args.reader.node c.args.reader.pin c.pin-pin.result.0 c.of-part.result v pin c.of-part.ensures.value)

pub returns-clause-noting : goal.returns-clause-noting
returns-clause-noting c =
    let noting : IsNoting c.args.n.now.net c.args.parts.now (pin_is_voted c.args.n.now.net c.args.parts.now c.args.votes.now) c.of-part.result c.args.rows.now = subst (λ (p : ℕ). IsNoting c.args.n.now.net c.args.parts.now (pin_is_voted c.args.n.now.net c.args.parts.now c.args.votes.now) p c.args.rows.now) (sym c.of-part.ensures.value) c.requires.noting in
    subst (λ (p : ℕ). IsNoting c.args.n.now.net c.args.parts.now (pin_is_voted c.args.n.now.net c.args.parts.now c.args.votes.now) p c.note.new.self) c.of-part.ensures.value
    (subst (λ (rs : List (List ℕ)). IsNoting c.args.n.now.net c.args.parts.now (pin_is_voted c.args.n.now.net c.args.parts.now c.args.votes.now) c.of-part.result rs) (sym c.in_ok-note.ensures.rows) (noting_more c.args.n.now.net c.args.parts.now (pin_is_voted c.args.n.now.net c.args.parts.now c.args.votes.now) c.of-part.result c.pin-pin.result.0 c.args.rows.now noting c.pin-pin.ensures.range))
