use Rattle.std.proofs.Common.{◌≡◌, ◌+◌, ◌<◌, ℕ, suc, length, refl, ap, subst, ◌∙◌, arith}
use Rattle.std.proofs.lemmas.List.{length_push, length-replicate}
use Rattle.flat_net.specs.Net.{node_of, pins_at}
use Rattle.feedback_cut.specs.Inner.{node_pins}
use Rattle.triplicate.specs.Private.Places.{tap_start}
use Rattle.triplicate.proofs.PinSums.{start_few, start_more}
use Rattle.triplicate.proofs.TapLaws.{firsts_more}
use Rattle.triplicate.proofs.taps.no_taps.Goals as goal

pub loop-y-init : goal.loop-y-init
loop-y-init c = record { next = refl; long = ap length c.in_ok-firsts.ensures.items; each = λ z h. absurd (omega (arith, h)) }

pub overflow_add-next : goal.overflow_add-next
overflow_add-next c =
    let pins : c.pin_count-next.result ≡ length (node_pins c.args.n.now.net c.loop-y.y) = subst (λ (a : ℕ). c.pin_count-next.result ≡ length (pins_at (node_of c.args.n.now.net (a + c.loop-y.y)))) c.input_count-inputs.ensures.count c.pin_count-next.ensures in
    let below : c.loop-y.y < length c.args.n.now.net.nodes = omega (arith, c.loop-y-test.true, c.nodes_of-nodes.ensures.count) in
    omega (arith, pins, c.loop-y.invariant.next, start_few c.args.n.now.net c.loop-y.y below, c.pin_total-pins.ensures)

pub loop-y-preserved : goal.loop-y-preserved
loop-y-preserved c =
    let pins : c.pin_count-next.result ≡ length (node_pins c.args.n.now.net c.loop-y.y) = subst (λ (a : ℕ). c.pin_count-next.result ≡ length (pins_at (node_of c.args.n.now.net (a + c.loop-y.y)))) c.input_count-inputs.ensures.count c.pin_count-next.ensures in
    let more : c.loop-y.y + 1 ≡ suc c.loop-y.y = omega arith in
    record {
      next = omega (arith, pins, c.loop-y.invariant.next, start_more c.args.n.now.net c.loop-y.y, ap (λ (k : ℕ). tap_start c.args.n.now.net k) more);
      long = ap length c.in_ok-push.ensures.items ∙ (length_push c.loop-y.firsts.items c.loop-y.next ∙ ap (λ (k : ℕ). k + 1) c.loop-y.invariant.long);
      each = firsts_more c.args.n.now.net c.loop-y.firsts.items c.push.new.self.items c.loop-y.y c.loop-y.next c.loop-y.invariant.long c.in_ok-push.ensures.items c.loop-y.invariant.next c.loop-y.invariant.each;
    }

pub returns : goal.returns
returns c =
    let end : c.loop-y.y ≡ length c.args.n.now.net.nodes = omega (arith, c.loop-y-test.false, c.nodes_of-nodes.ensures.count) in
    record {
      long = c.loop-y.invariant.long ∙ end;
      each = λ z h. c.loop-y.invariant.each z (omega (arith, h, end));
      places = ap length (c.in_ok-places.ensures.items_if_clones_equal (λ y e. e)) ∙ (length-replicate c.loop-y.next 0 ∙ (c.loop-y.invariant.next ∙ ap (λ (k : ℕ). tap_start c.args.n.now.net k) end));
    }
