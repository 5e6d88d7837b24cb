-- Models in which no element stands.
use Rattle.std.specs.Prelude.{◌≡◌, ◌||◌, ℕ, zero, suc, Bool, true, false, List, [], ◌∷◌, Option, Some, None, slice_index_or, if◌then◌else◌}
use Rattle.std.specs.Option.{is_none, option_map_or}
use Rattle.blif_text.specs.Models.{PlainElement, Table, Register, Instance, PlainModel}
use Rattle.library_faults.specs.Graph.{model_named, number_named}
use Rattle.library_faults.specs.Private.Models.{model_at}

-- a table or a register stands among the elements, or in a model that one of them places, where `inner` says so of these
unfoldable pub holds_with : (List ℕ → Bool) → List PlainElement → Bool
holds_with inner [] = false
holds_with inner (Table pins out cover ∷ elements) = true
holds_with inner (Register pin out control init ∷ elements) = true
holds_with inner (Instance model bindings ∷ elements) = inner model || holds_with inner elements

-- one stands in the model of this name, or below it in one of so many models below one another
unfoldable pub holds_to : List PlainModel → ℕ → List ℕ → Bool
holds_to library zero name = false
holds_to library (suc depth) name = option_map_or (λ m. holds_with (holds_to library depth) m.elements) (model_named library name) false

-- none stands among these elements, however far below
abbrev pub IsBare : List PlainModel → List PlainElement → Type 0
IsBare library elements = (depth : ℕ) → holds_with (holds_to library depth) elements ≡ false

-- each model that is marked as one that holds nothing is bare
abbrev pub AreBare : List PlainModel → List Bool → Type 0
AreBare library holds = (x : ℕ) → slice_index_or holds x true ≡ false → IsBare library (model_at library x).elements

-- the model of this number, unless it is marked as one that holds nothing
abbrev pub filled : List Bool → Option ℕ → Option ℕ
filled holds None = None
filled holds (Some x) = if slice_index_or holds x true then Some x else None

-- a statement that places nothing that holds an element
abbrev pub is_bare_element : List (List ℕ) → List Bool → PlainElement → Bool
is_bare_element names holds (Table pins out cover) = false
is_bare_element names holds (Register pin out control init) = false
is_bare_element names holds (Instance model bindings) = is_none (filled holds (number_named names model))
