-- The draft of a model that places no models.
use Rattle.std.specs.Prelude.{ℕ, Bool, true, false, List, [], ◌∷◌, flat_map, count_by}
use Rattle.blif_text.specs.declared.library.Init.{Init}
use Rattle.blif_text.specs.declared.library.Init.TheVariants.{Zero, One, Free, Unknown}
use Rattle.blif_text.specs.Models.{PlainElement, Table, Register, Instance, PlainModel}
use Rattle.flat_net.specs.Draft.{Element, TableOf, LatchOf, PlainDraft}

-- a register that may begin with any value begins with 0
abbrev pub starts_with : Init → Bool
starts_with Zero = false
starts_with One = true
starts_with Free = false
starts_with Unknown = false

abbrev pub drafted : PlainElement → List Element
drafted (Table pins out cover) = TableOf pins out cover ∷ []
drafted (Register pin out control init) = LatchOf pin out control (starts_with init) ∷ []
drafted (Instance model bindings) = []

unfoldable pub draft_of : PlainModel → PlainDraft
draft_of m = record { model = m.name; inputs = m.inputs; outputs = m.outputs; elements = flat_map drafted m.elements }

abbrev pub is_open : Init → Bool
is_open Zero = false
is_open One = false
is_open Free = true
is_open Unknown = true

abbrev pub is_assumed : PlainElement → Bool
is_assumed (Table pins out cover) = false
is_assumed (Register pin out control init) = is_open init
is_assumed (Instance model bindings) = false

-- how many registers have an initial value that is 2, 3 or absent
unfoldable pub assumed : PlainModel → ℕ
assumed m = count_by is_assumed m.elements

-- the mark of a drafted element: whether it is a register whose initial value is 2, 3 or absent
abbrev pub open_mark : PlainElement → List Bool
open_mark (Table pins out cover) = false ∷ []
open_mark (Register pin out control init) = is_open init ∷ []
open_mark (Instance model bindings) = []

-- the marks of all drafted elements, one for each
unfoldable pub open_marks : PlainModel → List Bool
open_marks m = flat_map open_mark m.elements
