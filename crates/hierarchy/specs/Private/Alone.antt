-- A main model that places no models.
use Rattle.std.specs.Prelude.{Bool, true, false, List, [], ◌∷◌, if◌then◌else◌}
use Rattle.blif_text.specs.Models.{PlainElement, Table, Register, Instance}

-- a `.subckt` statement
abbrev pub is_placing : PlainElement → Bool
is_placing (Table pins out cover) = false
is_placing (Register pin out control init) = false
is_placing (Instance model bindings) = true

-- there is no `.subckt` statement
unfoldable pub places_nothing : List PlainElement → Bool
places_nothing [] = true
places_nothing (element ∷ elements) = if is_placing element then false else places_nothing elements
