use Rattle.std.proofs.Common.{◌∙◌}
use Rattle.blif_text.specs.Views.{plain_element}
use Rattle.library_faults.specs.Private.Entries.{entry_named}
use Rattle.library_faults.proofs.ElementCounts.{element_more_at, element_large_at, elements_end, after_few}
use Rattle.library_faults.proofs.lengths.count.add_elements.Goals as goal

pub returns-then-not-branch : goal.returns-then-not-branch
returns-then-not-branch c = λ limit fixed uses told. element_large_at limit (entry_named c.args.names.now.keys c.args.positions.now c.args.counts.now) fixed uses c.args.elements.now c.loop-element.element-index c.loop-element.number c.element-item.result c.loop-element-test.true c.element-item.is c.args.count.now c.loop-element.count c.add_element.new.count c.in_ok-add_element.field-0 c.loop-element.invariant.kept (c.loop-element.invariant.leads limit fixed uses told) told (c.in_ok-add_element.ensures.adds limit fixed uses) c.if-not-branch.true

pub loop-element-preserved : goal.loop-element-preserved
loop-element-preserved c = record {
  kept = record { formals = c.in_ok-add_element.ensures.kept.formals ∙ c.loop-element.invariant.kept.formals; shaped = c.in_ok-add_element.ensures.kept.shaped ∙ c.loop-element.invariant.kept.shaped };
  few = rw c.next_number-number.ensures (after_few c.loop-element.number c.loop-element.element-index (plain_element c.element-item.result) c.loop-element.invariant.few);
  leads = λ limit fixed uses told. element_more_at limit (entry_named c.args.names.now.keys c.args.positions.now c.args.counts.now) fixed uses c.args.elements.now c.loop-element.element-index c.loop-element.number c.element-item.result c.loop-element-test.true c.element-item.is c.args.count.now c.loop-element.count c.add_element.new.count c.in_ok-add_element.field-0 c.next_number-number.result c.loop-element.invariant.kept (c.loop-element.invariant.leads limit fixed uses told) told (c.in_ok-add_element.ensures.adds limit fixed uses) c.if-not-branch.false c.next_number-number.ensures;
}

pub returns : goal.returns
returns c = λ limit fixed uses told. elements_end fixed uses c.args.elements.now c.loop-element.element-index c.loop-element.number c.args.count.now c.loop-element.count c.loop-element-test.false (c.loop-element.invariant.leads limit fixed uses told)
