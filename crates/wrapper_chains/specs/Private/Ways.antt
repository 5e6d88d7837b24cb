-- Statements that have the flat elements of a model that only hands its nets on. These are for proofs: what the public calls
-- promise is said of the flat elements alone.
use Rattle.std.specs.Prelude.{◌≡◌, ◌≢◌, ◌≤◌, ◌<◌, ℕ, Bool, true, List, [], ◌∷◌, ◌⊎◌, length, flat_map, slice_get, slice_index, slice_index_or, option_and_then, Option, Some, None}
use Rattle.std.specs.Option.{is_some}
use Rattle.blif_text.specs.Kind.{is_among}
use Rattle.blif_text.specs.Models.{PlainElement, Instance, PlainModel}
use Rattle.wrapper_chains.specs.declared.ways.Way.{Way}
use Rattle.library_faults.specs.Flat.{Level, NetElement, actual_of, elements_with, elements_to}
use Rattle.library_faults.specs.declared.lengths.count.Count.{Count}
use Rattle.library_faults.specs.Private.Counts.{element_names, used}
use Rattle.wrapper_chains.specs.Bare.{is_bare_element}
use Rattle.library_faults.specs.Private.Entries.{entry_at}
use Rattle.wrapper_chains.specs.Private.Placed.{placed_element}
use Rattle.library_faults.specs.Private.Models.{model_at, no_element}

-- the names that stand in tables and registers
abbrev pub nets_in : List PlainElement → List (List ℕ)
nets_in elements = flat_map element_names elements

-- the flat elements of tables and registers at these levels
abbrev pub placed_all : List Level → List PlainElement → List NetElement
placed_all levels elements = flat_map (placed_element levels) elements

-- one level further in, where these names are bound
abbrev pub bound_at : List (List ℕ × List ℕ) → List Level → List Level
bound_at nets levels = record { path = []; bindings = nets } ∷ levels

-- the element with this number alone may hold elements
pub record IsOnly (names : List (List ℕ)) (holds : List Bool) (elements : List PlainElement) (i : ℕ) : Type 0 where
  pub within : i < length elements
  pub others : (k : ℕ) → k < length elements → k ≢ i → is_bare_element names holds (slice_index_or elements k no_element) ≡ true

-- each name has what its net is bound to, and each net is bound
pub record IsHandedOn (nets : List (List ℕ × List ℕ)) (actual : List ℕ → Option (List ℕ)) (handed : List (List ℕ × List ℕ)) : Type 0 where
  pub same : (name : List ℕ) → actual_of handed name ≡ option_and_then actual (actual_of nets name)
  pub some : (name : List ℕ) → is_some (actual_of handed name) ≡ is_some (actual_of nets name)

-- the way of a model that holds one statement with these bindings alone, where that is the way of the placed model
abbrev pub IsHandedWay : Option Way → List (List ℕ × List ℕ) → Way → Type 0
IsHandedWay None bindings way = ⊥
IsHandedWay (Some placed) bindings way = (way.base ≡ placed.base) × IsHandedOn placed.nets.items (actual_of bindings) way.nets.items

-- the way of a model with this number and count, where only formals stand below it: each of these is bound to itself
pub record IsEndWay (found : Option Count) (x : ℕ) (way : Way) : Type 0 where
  pub count : Count
  pub is : found ≡ Some count
  pub closed : count.places ≡ 0
  pub base : way.base ≡ x
  pub bound : (name : List ℕ) → used count name ≢ 0 → actual_of way.nets.items name ≡ Some name

-- from this depth on, statements have these flat elements
abbrev pub IsMadeOf : List PlainModel → ℕ → List PlainElement → (List Level → List NetElement) → Type 0
IsMadeOf library bound elements flat = (depth number : ℕ) (levels : List Level) → bound ≤ depth
    → elements_with (elements_to library depth) levels number elements ≡ flat levels

-- the model at this place of the order has the flat elements of the way's model, where the way binds what stands there
pub record IsWay (library : List PlainModel) (order : List ℕ) (place : ℕ) (way : Way) : Type 0 where
  pub end : ℕ
  pub before : end ≤ place
  pub base : slice_index order end ≡ way.base
  pub elements : List PlainElement
  pub made : IsMadeOf library end (model_at library way.base).elements (λ levels. placed_all levels elements)
  pub bound : (name : List ℕ) → is_among (nets_in elements) name ≡ true → is_some (actual_of way.nets.items name) ≡ true
  pub same : IsMadeOf library place (model_at library (slice_index order place)).elements (λ levels. placed_all (bound_at way.nets.items levels) elements)

-- each way is that of the model at its place in the order
abbrev pub AreWays : List PlainModel → List ℕ → List (Option Way) → Type 0
AreWays library order ways = (place : ℕ) (way : Way) → slice_get ways place ≡ Some (Some way) → IsWay library order place way

-- these elements are the statement alone of the way of the model with this number, where the models have these names
pub record IsOfWay (names : List (List ℕ)) (positions : List ℕ) (ways : List (Option Way)) (x : ℕ) (elements : List PlainElement) : Type 0 where
  pub way : Way
  pub at : entry_at positions ways x ≡ Some way
  pub other : way.base ≢ x
  pub within : way.base < length names
  pub is : elements ≡ Instance (slice_index_or names way.base []) way.nets.items ∷ []

-- the model m with this number, of which the statement of its way may stand for the elements
pub record IsShort (names : List (List ℕ)) (positions : List ℕ) (ways : List (Option Way)) (x : ℕ) (m short : PlainModel) : Type 0 where
  pub name : short.name ≡ m.name
  pub inputs : short.inputs ≡ m.inputs
  pub outputs : short.outputs ≡ m.outputs
  pub elements : (short.elements ≡ m.elements) ⊎ IsOfWay names positions ways x short.elements
