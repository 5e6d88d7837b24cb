use Rattle.std.proofs.Common.{◌+◌, ◌∷◌, [], ap, sym, ◌∙◌, map, take, drop}
use Rattle.flat_net.specs.declared.draft.DraftElement.{DraftElement}
use Rattle.flat_net.specs.DraftView.{plain_element}
use Rattle.flat_net.specs.Faults.{first_control}
use Rattle.flat_net.proofs.Going.{one_more, split_here}
use Rattle.flat_net.proofs.Clocks.{first_control-none}
use Rattle.flat_net.proofs.building.clocking.first_latch.Goals as goal

pub returns-in-LatchElement : goal.returns-in-LatchElement
returns-in-LatchElement c =
    let all = split_here plain_element c.args.elements.now c.loop-element.element-index c.element-item.result c.loop-element-test.true c.element-item.is in
    rw c.deref.ensures (sym (ap first_control all ∙ (first_control-none (map plain_element (take c.loop-element.element-index c.args.elements.now)) (plain_element c.element-item.result ∷ (map plain_element (drop (c.loop-element.element-index + 1) c.args.elements.now))) c.loop-element.invariant ∙ ap (λ (e : DraftElement). first_control (plain_element e ∷ map plain_element (drop (c.loop-element.element-index + 1) c.args.elements.now))) c.in-LatchElement.is)))

pub loop-element-preserved : goal.loop-element-preserved
loop-element-preserved c =
    let next = one_more plain_element c.args.elements.now c.loop-element.element-index c.element-item.result c.loop-element-test.true c.element-item.is in
    ap first_control next ∙ (first_control-none (map plain_element (take c.loop-element.element-index c.args.elements.now)) (plain_element c.element-item.result ∷ []) c.loop-element.invariant ∙ ap (λ (e : DraftElement). first_control (plain_element e ∷ [])) c.in_default.is)
