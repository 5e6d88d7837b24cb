use Rattle.std.proofs.Common.{◌≡◌, ◌≢◌, sym, map}
use Rattle.std.proofs.lemmas.List.{append-nil}
use Rattle.flat_net.specs.DraftView.{plain_element}
use Rattle.flat_net.specs.First.{IsFirst}
use Rattle.flat_net.specs.Draft.{Element, out_of}
use Rattle.flat_net.specs.Faults.{is_driven_before}
use Rattle.flat_net.specs.declared.fault.NetFault.TheVariants.{DoubleDriven, Memory}
use Rattle.flat_net.proofs.Firsts.{none_nil}
use Rattle.flat_net.proofs.Going.{one_more, split_here, pushed_names, pushed_once, doubled}
use Rattle.flat_net.proofs.Causes.{told_fault}
use Rattle.flat_net.proofs.building.driving.push_outs.Goals as goal

pub loop-element-init : goal.loop-element-init
loop-element-init c = record { names = sym (append-nil c.args.names.now.keys); once = none_nil (is_driven_before c.args.names.now.keys) }

pub loop-element-preserved : goal.loop-element-preserved
loop-element-preserved c =
    let next = one_more plain_element c.args.elements.now c.loop-element.element-index c.element-item.result c.loop-element-test.true c.element-item.is in
    record {
      names = pushed_names c.args.names.now.keys c.loop-element.names.keys _ (plain_element c.element-item.result) c.loop-element.invariant.names c.push_out.new.names.keys _ (rw c.out_name.ensures at c.in_ok-push_out.ensures.ok) next;
      once = pushed_once c.args.names.now.keys c.loop-element.names.keys _ (plain_element c.element-item.result) c.loop-element.invariant.names _ c.loop-element.invariant.once (rw c.out_name.ensures at c.in_ok-push_out.ensures.new) next;
    }

pub returns-in_err-push_out-clause-fault : goal.returns-in_err-push_out-clause-fault
returns-in_err-push_out-clause-fault c =
    let all = split_here plain_element c.args.elements.now c.loop-element.element-index c.element-item.result c.loop-element-test.true c.element-item.is in
    let told : c.in_err-push_out.field-0.0 ≢ Memory → (element : Element) × IsFirst (is_driven_before c.args.names.now.keys) (map plain_element c.args.elements.now) element × (c.in_err-push_out.field-0.0 ≡ DoubleDriven (out_of element)) = λ other.
    let found = c.in_err-push_out.ensures.fault other in
    (plain_element c.element-item.result, doubled c.args.names.now.keys c.loop-element.names.keys _ (plain_element c.element-item.result) c.loop-element.invariant.names _ _ c.loop-element.invariant.once (rw c.out_name.ensures at found.1) all, rw c.out_name.ensures at found.0) in
    told_fault c.from_residual.result c.in_err-push_out.field-0.0 _ c.from_residual.ensures.1 told
