-- The plain form of a library: each vector is the list of its items, and each name the list of its bytes.
use Rattle.std.specs.Prelude.{ℕ, Bool, List, map, if◌then◌else◌}
use Rattle.table_cover.specs.Cover.{PlainCover}
use Rattle.blif_text.specs.declared.library.Element.{Element}
use Rattle.blif_text.specs.declared.library.Element.TheVariants as elements
use Rattle.blif_text.specs.declared.library.BlifModel.{BlifModel}
use Rattle.blif_text.specs.Kind.{Marks}
use Rattle.blif_text.specs.Models.{PlainElement, Table, Register, Instance, PlainModel}

abbrev pub plain_element : Element → PlainElement
plain_element (elements.Table pins out cover) = Table pins.items out cover
plain_element (elements.Latch pin out control init) = Register pin out control.value init
plain_element (elements.Instance model bindings) = Instance model bindings.items

abbrev pub plain_model : BlifModel → PlainModel
plain_model m = record { name = m.name; inputs = m.inputs.items; outputs = m.outputs.items; elements = map plain_element m.elements.items }

-- The rows of a cover.

-- the output of a polarity
abbrev pub bit : Bool → ℕ
bit is_on = if is_on then 49 else 48

-- a row with the output of its table
abbrev pub marked : Bool → List ℕ → Marks
marked is_on marks = record { marks = marks; output = bit is_on }

abbrev pub marked_rows : PlainCover → List Marks
marked_rows k = map (marked k.is_on) k.rows
