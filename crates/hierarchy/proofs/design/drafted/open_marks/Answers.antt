use Rattle.std.proofs.Common.{◌≡◌, ◌++◌, ◌+◌, drop, map, sym, subst}
use Rattle.std.specs.List.{flat_map}
use Rattle.blif_text.specs.Views.{plain_element}
use Rattle.hierarchy.specs.Drafted.{open_mark}
use Rattle.library_faults.proofs.Items.{flat_more}
use Rattle.hierarchy.proofs.design.drafted.open_marks.Goals as goal

pub loop-element-preserved : goal.loop-element-preserved
loop-element-preserved c =
    let whole = flat_map open_mark (map plain_element c.args.model.now.elements.items) in
    let value = c.deref-element-items.ensures.value in
    subst (λ es. c.push_mark.new.marks.items ++ flat_map open_mark (map plain_element (drop (c.loop-element.element-index + 1) es)) ≡ whole) value
    (flat_more open_mark plain_element c.deref-element-items.result.now c.loop-element.element-index c.element-item.result c.loop-element.marks.items c.push_mark.new.marks.items whole c.loop-element-test.true c.element-item.is c.in_ok-push_mark.ensures
    (subst (λ es. c.loop-element.marks.items ++ flat_map open_mark (map plain_element (drop c.loop-element.element-index es)) ≡ whole) (sym value) c.loop-element.invariant))
