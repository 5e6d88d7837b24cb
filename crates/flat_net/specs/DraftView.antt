-- What a draft shows of its fields.
use Rattle.std.specs.Prelude.{map}
use Rattle.flat_net.specs.declared.draft.DraftElement.{DraftElement}
use Rattle.flat_net.specs.declared.draft.DraftElement.TheVariants.{TableElement, LatchElement}
use Rattle.flat_net.specs.declared.draft.Draft.TheInside.{Inside}
use Rattle.flat_net.specs.Draft.{PlainDraft, Element, TableOf, LatchOf}

abbrev pub plain_element : DraftElement → Element
plain_element (TableElement pins out cover) = TableOf pins.items out cover
plain_element (LatchElement pin out control init) = LatchOf pin out control.value init

abbrev pub draft_of : Inside → PlainDraft
draft_of d = record { model = d.model; inputs = d.inputs.items; outputs = d.outputs.items; elements = map plain_element d.elements.items }
