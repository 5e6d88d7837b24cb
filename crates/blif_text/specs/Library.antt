-- What a library keeps, whatever text it was read from.
use Rattle.std.specs.Prelude.{◌≡◌, ◌≢◌, ◌<◌, ℕ, List, length, map, All, AllPairs}
use Rattle.blif_text.specs.Models.{PlainElement, PlainModel, Table}

-- no two names of the list are equal
abbrev pub Differ : List (List ℕ) → Type 0
Differ names = AllPairs (λ a b. a ≢ b) names

-- a table's cover is as wide as it has pins
abbrev pub FitsPins : PlainElement → Type 0
FitsPins (Table pins out cover) = cover.width ≡ length pins
FitsPins _ = Unit {0}

-- a model's inputs differ, and so do its outputs, and each cover is as wide as its table has pins
pub record IsModel (m : PlainModel) : Type 0 where
  pub inputs : Differ m.inputs
  pub outputs : Differ m.outputs
  pub covers : All FitsPins m.elements

abbrev pub name_of : PlainModel → List ℕ
name_of m = m.name

-- models as a text has them: their names differ
pub record AreModels (ms : List PlainModel) : Type 0 where
  pub names : Differ (map name_of ms)
  pub each : All IsModel ms

-- a library has a model, and fewer than 2^32 of them: a text with more is not read, for want of memory
pub record IsLibrary (ms : List PlainModel) : Type 0 where
  pub some : 0 < length ms
  pub few : length ms < 4294967296
  pub models : AreModels ms
