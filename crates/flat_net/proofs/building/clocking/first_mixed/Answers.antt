use Rattle.std.proofs.Common.{◌+◌, ap, sym, ◌∙◌, map, take, drop}
use Rattle.flat_net.specs.DraftView.{plain_element}
use Rattle.flat_net.specs.Faults.{first_control, is_mixed}
use Rattle.flat_net.proofs.Firsts.{none_nil, none_push, first_here}
use Rattle.flat_net.proofs.Going.{one_more, split_here}
use Rattle.flat_net.proofs.Clocks.{mixed_is_unlike}
use Rattle.flat_net.proofs.building.clocking.first_mixed.Goals as goal

pub loop-element-init : goal.loop-element-init
loop-element-init c = none_nil is_mixed

pub returns-then-differs-clause-some : goal.returns-then-differs-clause-some
returns-then-differs-clause-some c =
    let all = split_here plain_element c.args.elements.now c.loop-element.element-index c.element-item.result c.loop-element-test.true c.element-item.is in
    let mixed = mixed_is_unlike (map plain_element (take c.loop-element.element-index c.args.elements.now)) (plain_element c.element-item.result) (map plain_element (drop (c.loop-element.element-index + 1) c.args.elements.now)) c.args.first.now (sym (ap first_control all) ∙ c.requires) in
    (plain_element c.element-item.result, rw all (first_here is_mixed (map plain_element (take c.loop-element.element-index c.args.elements.now)) (plain_element c.element-item.result) (map plain_element (drop (c.loop-element.element-index + 1) c.args.elements.now)) c.loop-element.invariant (mixed ∙ (sym c.differs.ensures ∙ c.if-differs.true))), sym c.out_name.ensures)

pub loop-element-preserved : goal.loop-element-preserved
loop-element-preserved c =
    let next = one_more plain_element c.args.elements.now c.loop-element.element-index c.element-item.result c.loop-element-test.true c.element-item.is in
    let all = split_here plain_element c.args.elements.now c.loop-element.element-index c.element-item.result c.loop-element-test.true c.element-item.is in
    let mixed = mixed_is_unlike (map plain_element (take c.loop-element.element-index c.args.elements.now)) (plain_element c.element-item.result) (map plain_element (drop (c.loop-element.element-index + 1) c.args.elements.now)) c.args.first.now (sym (ap first_control all) ∙ c.requires) in
    rw next (none_push is_mixed (map plain_element (take c.loop-element.element-index c.args.elements.now)) (plain_element c.element-item.result) c.loop-element.invariant (mixed ∙ (sym c.differs.ensures ∙ c.if-differs.false)))
