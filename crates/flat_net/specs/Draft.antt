-- A draft: a model's ports and elements, by name.
use Rattle.std.specs.Prelude.{◌≡◌, ◌≢◌, ◌<◌, Bool, true, ℕ, List, [], ◌∷◌, length, slice_index_or, Option, Some, None, All}
use Rattle.tmr_base.specs.Names.{is_name}
use Rattle.tmr_base.specs.declared.ids.Edge.{Edge}
use Rattle.table_cover.specs.Cover.{PlainCover, IsCover}

-- a table has pins, an output and a cover; a latch has a pin, an output, perhaps a control, and its value in cycle 0
pub data Element : Type 0 where
  TableOf : (pins : List (List ℕ)) (out : List ℕ) (cover : PlainCover) → Element
  LatchOf : (pin : List ℕ) (out : List ℕ) (control : Option (Edge × List ℕ)) (init : Bool) → Element

pub record PlainDraft : Type 0 where
  pub model : List ℕ
  pub inputs : List (List ℕ)
  pub outputs : List (List ℕ)
  pub elements : List Element

abbrev pub out_of : Element → List ℕ
out_of (TableOf pins out cover) = out
out_of (LatchOf pin out control init) = out

abbrev pub reads_of : Element → List (List ℕ)
reads_of (TableOf pins out cover) = pins
reads_of (LatchOf pin out control init) = pin ∷ []

abbrev pub IsControl : Option (Edge × List ℕ) → Type 0
IsControl None = Unit {0}
IsControl (Some (edge, name)) = is_name name ≡ true

-- a table has as many pins as its cover is wide
abbrev pub IsElement : Element → Type 0
IsElement (TableOf pins out cover) = (is_name out ≡ true) × (length pins ≡ cover.width) × IsCover cover
IsElement (LatchOf pin out control init) = (is_name out ≡ true) × IsControl control

-- what each draft keeps
pub record IsDraft (d : PlainDraft) : Type 0 where
  pub model : is_name d.model ≡ true
  pub inputs : All (λ name. is_name name ≡ true) d.inputs
  pub elements : All IsElement d.elements

-- no name stands twice
abbrev pub AreDistinct : List (List ℕ) → Type 0
AreDistinct names = (j k : ℕ) → j < k → k < length names → slice_index_or names j [] ≢ slice_index_or names k []
