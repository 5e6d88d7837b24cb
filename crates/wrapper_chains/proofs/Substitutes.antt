-- What may stand for the models of a library and their elements.
use Rattle.std.specs.Prelude.{◌≡◌, ◌≤◌, ◌<◌, ℕ, List, length, slice_index, slice_index_or, Some}
use Rattle.blif_text.specs.Models.{PlainElement, Instance, PlainModel}
use Rattle.library_faults.specs.Graph.{names_of, number_named}
use Rattle.library_faults.specs.Flat.{Level, elements_with, elements_to}
use Rattle.library_faults.specs.Private.Models.{model_at, no_element}

-- these elements may stand for those of the model at this place of the order: they are the same flat elements, and place
-- models that stand before it alone
pub record StandFor (library : List PlainModel) (order : List ℕ) (place : ℕ) (elements : List PlainElement) : Type 0 where
  pub same : (depth : ℕ) (levels : List Level) → place ≤ depth
      → elements_with (elements_to library depth) levels 0 elements
      ≡ elements_with (elements_to library depth) levels 0 (model_at library (slice_index order place)).elements
  pub placed : (i : ℕ) (model : List ℕ) (bindings : List (List ℕ × List ℕ)) (y : ℕ) → i < length elements
      → slice_index_or elements i no_element ≡ Instance model bindings → number_named (names_of library) model ≡ Some y
      → (j : ℕ) × (j < place) × (slice_index order j ≡ y)

-- the model may stand for that of this number, with the same name and ports
pub record IsStandIn (library : List PlainModel) (order : List ℕ) (x : ℕ) (m : PlainModel) : Type 0 where
  pub name : m.name ≡ (model_at library x).name
  pub inputs : m.inputs ≡ (model_at library x).inputs
  pub outputs : m.outputs ≡ (model_at library x).outputs
  pub elements : (place : ℕ) → place < length order → slice_index order place ≡ x → StandFor library order place m.elements

-- each model may stand for that of the same number
pub record AreStandIns (library : List PlainModel) (order : List ℕ) (models : List PlainModel) : Type 0 where
  pub long : length models ≡ length library
  pub each : (x : ℕ) → x < length library → IsStandIn library order x (model_at models x)
