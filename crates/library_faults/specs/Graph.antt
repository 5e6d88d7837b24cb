-- Which model places which, by number, and which models the main model reaches.
use Rattle.std.specs.Prelude.{ℕ, List, [], map, flat_map, Option, option_to_list, option_and_then, position, slice_get, slice_index_or, Contains}
use Rattle.std.specs.Str.{bytes_eq}
use Rattle.blif_text.specs.Library.{name_of}
use Rattle.blif_text.specs.Models.{PlainElement, Table, Register, Instance, PlainModel}

abbrev pub names_of : List PlainModel → List (List ℕ)
names_of library = map name_of library

-- the number of the model with this name, where the library has one; the main model has the number 0
unfoldable pub number_named : List (List ℕ) → List ℕ → Option ℕ
number_named names name = position (bytes_eq name) names

-- the model with this name
abbrev pub model_named : List PlainModel → List ℕ → Option PlainModel
model_named library name = option_and_then (slice_get library) (number_named (names_of library) name)

-- the model that a statement places, where the library has it
abbrev pub placed_by : List (List ℕ) → PlainElement → List ℕ
placed_by names (Table pins out cover) = []
placed_by names (Register pin out control init) = []
placed_by names (Instance model bindings) = option_to_list (number_named names model)

-- the models that a model places, in the order of its statements
unfoldable pub placed_in : List (List ℕ) → List PlainElement → List ℕ
placed_in names elements = flat_map (placed_by names) elements

abbrev pub placed_of : List (List ℕ) → PlainModel → List ℕ
placed_of names m = placed_in names m.elements

-- for each model, the models that it places
abbrev pub graph : List PlainModel → List (List ℕ)
graph library = map (placed_of (names_of library)) library

-- the models that model x places
abbrev pub row : List (List ℕ) → ℕ → List ℕ
row rows x = slice_index_or rows x []

-- model x places model y
abbrev pub Places : List (List ℕ) → ℕ → ℕ → Type 0
Places rows x y = Contains (row rows x) y

-- the main model is reached, and so is each model that a reached model places
pub data Reached (rows : List (List ℕ)) : ℕ → Type 0 where
  main : Reached rows 0
  placed : (x y : ℕ) → Reached rows x → Places rows x y → Reached rows y
