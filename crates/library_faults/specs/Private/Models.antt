-- Models and elements by number.
use Rattle.std.specs.Prelude.{ℕ, List, [], slice_index_or}
use Rattle.blif_text.specs.Models.{PlainElement, Table, Register, Instance, PlainModel}
use Rattle.library_faults.specs.Flat.{no_model}

abbrev pub model_at : List PlainModel → ℕ → PlainModel
model_at library x = slice_index_or library x no_model

abbrev pub no_element : PlainElement
no_element = Instance [] []

abbrev pub element_at : List PlainModel → ℕ → ℕ → PlainElement
element_at library x i = slice_index_or (model_at library x).elements i no_element

-- the element is a `.subckt` statement
abbrev pub IsInstance : PlainElement → Type 0
IsInstance (Table pins out cover) = ⊥
IsInstance (Register pin out control init) = ⊥
IsInstance (Instance model bindings) = Unit {0}
