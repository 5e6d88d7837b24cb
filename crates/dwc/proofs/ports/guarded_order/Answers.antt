use Rattle.std.proofs.Common.{◌≡◌, ◌++◌, ◌+◌, ◌*◌, ℕ, List, map, length, ap, ◌∙◌, arith}
use Rattle.std.specs.List.{flat_map, range_with_len}
use Rattle.std.proofs.lemmas.List.{take_all, map-append}
use Rattle.flat_net.specs.Net.{net_count}
use Rattle.flat_net.specs.Nodes.{number_of}
use Rattle.flat_net.proofs.Orders.{length-order}
use Rattle.dwc.specs.Guard.{twin, twofold}
use Rattle.dwc.proofs.Lists.{pushed, pair_more}
use Rattle.dwc.proofs.ports.guarded_order.Goals as goal

pub loop-i-preserved : goal.loop-i-preserved
loop-i-preserved c =
    let x = c.ordered-x.result.0 in
    pair_more (λ y c. twin c y) c.args.n.now.order c.loop-i.i x (map number_of c.loop-i.order.items) (map number_of c.push.new.self.items) (map number_of c.push-in-loop-i.new.self.items) c.ordered-x.ensures.ordered
    (pushed c.loop-i.order.items c.push.new.self.items c.twin.result (twin 0 x) c.in_ok-push.ensures.items c.twin.ensures)
    (pushed c.push.new.self.items c.push-in-loop-i.new.self.items c.twin-in-loop-i.result (twin 1 x) c.in_ok-push-2.ensures.items c.twin-in-loop-i.ensures)
    c.loop-i.invariant

pub returns : goal.returns
returns c =
    let n = c.args.n.now.net in
    let order = c.args.n.now.order in
    let long = length-order n order c.input_count.ensures.design.order in
    let first : 2 * (c.input_count.result + c.node_count.result) ≡ 2 * net_count n = omega (arith, c.input_count.ensures.count, c.node_count.ensures) in
    let behind : map number_of c.deref.result.now ≡ range_with_len (2 * net_count n) (length n.outputs + 1) = ap (map number_of) c.deref.ensures.value ∙ (c.in_ok-behind.ensures ∙ (ap (λ a. range_with_len a (c.output_count.result + 1)) first ∙ ap (λ k. range_with_len (2 * net_count n) (k + 1)) c.output_count.ensures)) in
    let twins : map number_of c.loop-i.order.items ≡ flat_map (λ z. twofold (λ c. twin c z)) order = c.loop-i.invariant ∙ ap (flat_map (λ z. twofold (λ c. twin c z))) (take_all c.loop-i.i order (omega (arith, long, c.loop-i-test.false, c.node_count-i-end.ensures))) in
    ap (map number_of) c.in_ok-extend_from_slice.ensures.items ∙ (map-append number_of c.loop-i.order.items c.deref.result.now ∙ (ap (λ (xs : List ℕ). xs ++ map number_of c.deref.result.now) twins ∙ ap (λ (xs : List ℕ). flat_map (λ z. twofold (λ c. twin c z)) order ++ xs) behind))
