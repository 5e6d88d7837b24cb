use Rattle.std.proofs.Common.{◌≡◌, ◌≢◌, ℕ, List, ◌+◌, ◌++◌, ◌<◌, [], ◌∷◌, length, map, take, drop, ap, sym, ◌∙◌, arith}
use Rattle.std.specs.List.{flat_map}
use Rattle.std.proofs.lemmas.List.{length-map}
use Rattle.flat_net.specs.Nodes.{number_of}
use Rattle.flat_net.specs.Draft.{reads_of}
use Rattle.flat_net.specs.DraftView.{plain_element}
use Rattle.flat_net.specs.First.{IsFirst}
use Rattle.flat_net.specs.Faults.{is_no_net, number_in}
use Rattle.flat_net.specs.declared.fault.NetFault.TheVariants.{Undriven, Memory}
use Rattle.flat_net.proofs.Going.{one_more, split_here}
use Rattle.flat_net.proofs.WiredLaws.{wires_none, wires_more, room, first_of_all}
use Rattle.flat_net.proofs.Causes.{told_fault}
use Rattle.flat_net.proofs.building.wires.wire.Goals as goal

pub loop-element-init : goal.loop-element-init
loop-element-init c = rw (c.in_ok-wires.ensures.pins, c.in_ok-wires.ensures.ends, c.in_ok-wires.ensures.registers) (wires_none c.args.names.now.keys)

pub push_element-requires-clause-pins : goal.push_element-requires-clause-pins
push_element-requires-clause-pins c =
    let all = split_here plain_element c.args.elements.now c.loop-element.element-index c.element-item.result c.loop-element-test.true c.element-item.is in
    let most : length (flat_map reads_of (map plain_element (take c.loop-element.element-index c.args.elements.now))) + length (reads_of (plain_element c.element-item.result)) < 4294967295 = omega (arith, room (map plain_element (take c.loop-element.element-index c.args.elements.now)) (map plain_element (drop (c.loop-element.element-index + 1) c.args.elements.now)) (map plain_element c.args.elements.now) (plain_element c.element-item.result) all, c.requires.pins) in
    let total : length c.loop-element.wires.pins.items ≡ length (flat_map reads_of (map plain_element (take c.loop-element.element-index c.args.elements.now))) = sym (length-map c.loop-element.wires.pins.items number_of) ∙ c.loop-element.invariant.total in
    let need : length c.loop-element.wires.pins.items + length (reads_of (plain_element c.element-item.result)) < 4294967295 = omega arith in
    need

pub loop-element-preserved : goal.loop-element-preserved
loop-element-preserved c =
    let next = one_more plain_element c.args.elements.now c.loop-element.element-index c.element-item.result c.loop-element-test.true c.element-item.is in
    let pins : map number_of c.push_element.new.wires.pins.items ≡ map number_of c.loop-element.wires.pins.items ++ map (number_in c.args.names.now.keys) (reads_of (plain_element c.element-item.result)) = c.in_ok-push_element.ensures.pins in
    let ends : c.push_element.new.wires.ends.items ≡ c.loop-element.wires.ends.items ++ length (map number_of c.loop-element.wires.pins.items ++ map (number_in c.args.names.now.keys) (reads_of (plain_element c.element-item.result))) ∷ [] =
    c.in_ok-push_element.ensures.ends ∙ ap (λ n. c.loop-element.wires.ends.items ++ n ∷ []) (sym (length-map c.push_element.new.wires.pins.items number_of) ∙ ap length pins) in
    rw (next, pins, ends, c.in_ok-push_element.ensures.registers) (wires_more c.args.names.now.keys (map plain_element (take c.loop-element.element-index c.args.elements.now)) (plain_element c.element-item.result) (map number_of c.loop-element.wires.pins.items) c.loop-element.wires.ends.items c.loop-element.wires.registers c.loop-element.invariant c.in_ok-push_element.ensures.nets)

pub returns-in_err-push_element-clause-fault : goal.returns-in_err-push_element-clause-fault
returns-in_err-push_element-clause-fault c =
    let all = split_here plain_element c.args.elements.now c.loop-element.element-index c.element-item.result c.loop-element-test.true c.element-item.is in
    let told : c.in_err-push_element.field-0.0 ≢ Memory → (name : List ℕ) × IsFirst (is_no_net c.args.names.now.keys) (flat_map reads_of (map plain_element c.args.elements.now)) name × (c.in_err-push_element.field-0.0 ≡ Undriven name) = λ other.
    let (name, first, is) = c.in_err-push_element.ensures.fault other in
    (name, first_of_all c.args.names.now.keys (map plain_element (take c.loop-element.element-index c.args.elements.now)) (map plain_element (drop (c.loop-element.element-index + 1) c.args.elements.now)) (map plain_element c.args.elements.now) (plain_element c.element-item.result) name all c.loop-element.invariant.nets first, is) in
    told_fault c.from_residual-in_err-push_element.result c.in_err-push_element.field-0.0 _ c.from_residual-in_err-push_element.ensures.1 told
