-- The flat elements of a library: the main model's tables and registers in order, with the elements of each placed model at the
-- place of its `.subckt` statement.
use Rattle.std.specs.Prelude.{ℕ, zero, suc, ◌+◌, List, [], ◌∷◌, ◌++◌, length, map, flat_map, Option, Some, None, if◌then◌else◌}
use Rattle.std.specs.Option.{option_map_or}
use Rattle.std.specs.Str.{bytes_eq}
use Rattle.std.specs.Fmt.{decimal}
use Rattle.tmr_base.specs.declared.ids.Edge.{Edge}
use Rattle.table_cover.specs.Cover.{PlainCover}
use Rattle.blif_text.specs.declared.library.Init.{Init}
use Rattle.blif_text.specs.Models.{PlainElement, Table, Register, Instance, PlainModel}
use Rattle.library_faults.specs.Graph.{model_named}

-- a net: the path of the placed model that has it, and its name in that model. A path is the list of the numbers of `.subckt`
-- statements from the main model inwards.
pub record PlacedNet : Type 0 where
  pub path : List ℕ
  pub name : List ℕ

-- `u`, the number of the statement, and `/`
unfoldable pub step : ℕ → List ℕ
step number = 117 ∷ (decimal number ++ 47 ∷ [])

-- this for each number of a path
abbrev pub path_text : List ℕ → List ℕ
path_text path = flat_map step path

abbrev pub net_text : PlacedNet → List ℕ
net_text net = path_text net.path ++ net.name

-- a placed model: its path, and what its statement binds
pub record Level : Type 0 where
  pub path : List ℕ
  pub bindings : List (List ℕ × List ℕ)

-- the main model: its path is empty, and nothing is bound
abbrev pub main_level : Level
main_level = record { path = []; bindings = [] }

-- the path of the innermost of the levels that a model is placed at
abbrev pub path_of : List Level → List ℕ
path_of [] = []
path_of (level ∷ outer) = level.path

-- what the bindings bind the formal to
unfoldable pub actual_of : List (List ℕ × List ℕ) → List ℕ → Option (List ℕ)
actual_of [] name = None
actual_of (binding ∷ bindings) name = if bytes_eq name binding.0 then Some binding.1 else actual_of bindings name

-- the net of a name in a model placed at these levels, the innermost first: where the statement binds the name, it is the
-- net of the actual one level up, and else a net of the placed model
unfoldable pub resolve : List Level → List ℕ → PlacedNet
resolve [] name = record { path = []; name = name }
resolve (level ∷ outer) name = option_map_or (resolve outer) (actual_of level.bindings name) (record { path = level.path; name = name })

-- a table or a register over nets
pub data NetElement : Type 0 where
  NetTable : (pins : List PlacedNet) (out : PlacedNet) (cover : PlainCover) → NetElement
  NetRegister : (pin out : PlacedNet) (control : Option (Edge × PlacedNet)) (init : Init) → NetElement

abbrev pub resolved_control : List Level → Option (Edge × List ℕ) → Option (Edge × PlacedNet)
resolved_control levels None = None
resolved_control levels (Some (edge, name)) = Some (edge, resolve levels name)

-- the elements of statements, of which the first `.subckt` has this number, where `inner` gives those of the models that they place
unfoldable pub elements_with : (List Level → List ℕ → List NetElement) → List Level → ℕ → List PlainElement → List NetElement
elements_with inner levels number [] = []
elements_with inner levels number (Table pins out cover ∷ elements) =
    NetTable (map (resolve levels) pins) (resolve levels out) cover ∷ elements_with inner levels number elements
elements_with inner levels number (Register pin out control init ∷ elements) =
    NetRegister (resolve levels pin) (resolve levels out) (resolved_control levels control) init
    ∷ elements_with inner levels number elements
elements_with inner levels number (Instance model bindings ∷ elements) =
    inner (record { path = path_of levels ++ number ∷ []; bindings = bindings } ∷ levels) model
    ++ elements_with inner levels (number + 1) elements

-- the elements of the model of this name placed at these levels, which has at most so many models below one another
unfoldable pub elements_to : List PlainModel → ℕ → List Level → List ℕ → List NetElement
elements_to library zero levels name = []
elements_to library (suc depth) levels name = option_map_or (λ m. elements_with (elements_to library depth) levels 0 m.elements) (model_named library name) []

abbrev pub no_model : PlainModel
no_model = record { name = []; inputs = []; outputs = []; elements = [] }

abbrev pub main_of : List PlainModel → PlainModel
main_of [] = no_model
main_of (m ∷ models) = m

-- no path passes more models than there are, since no model is placed in itself
unfoldable pub flat_elements : List PlainModel → List NetElement
flat_elements library = elements_with (elements_to library (length library)) (main_level ∷ []) 0 (main_of library).elements

abbrev pub named_control : Option (Edge × PlacedNet) → Option (Edge × List ℕ)
named_control None = None
named_control (Some (edge, net)) = Some (edge, net_text net)

abbrev pub named : NetElement → PlainElement
named (NetTable pins out cover) = Table (map net_text pins) (net_text out) cover
named (NetRegister pin out control init) = Register (net_text pin) (net_text out) (named_control control) init

-- the main model with the flat elements, whose nets have their texts as names
unfoldable pub flat_model : List PlainModel → PlainModel
flat_model library = record {
  name = (main_of library).name;
  inputs = (main_of library).inputs;
  outputs = (main_of library).outputs;
  elements = map named (flat_elements library);
}
