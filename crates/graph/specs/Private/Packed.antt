-- Rows that stand side by side in one list.
use Rattle.std.specs.Prelude.{◌≡◌, ℕ, zero, suc, ◌+◌, ◌-◌, ◌≤◌, Bool, List, [], ◌∷◌, slice_index, slice_index_or, slice_range}
use Rattle.smallvec.specs.SmallVec.{SmallVec}
use Rattle.graph.specs.declared.spans.Span.{Span}
use Rattle.graph.specs.declared.spans.NarrowSpan.{NarrowSpan}

-- the numbers of a row that stands on its own
abbrev pub row_items : SmallVec ℕ → List ℕ
row_items row = row.items

-- the rows that end there, of which the first begins at `from`
abbrev pub rows_from : ℕ → List ℕ → List ℕ → List (List ℕ)
rows_from from [] items = []
rows_from from (end ∷ ends) items = slice_range items from end ∷ rows_from end ends items

-- the ends never fall, and the last is `count`
abbrev pub AreEnds : ℕ → List ℕ → ℕ → Type 0
AreEnds from [] count = from ≡ count
AreEnds from (end ∷ ends) count = (from ≤ end) × AreEnds end ends count

-- where row x begins
abbrev pub start_of : ℕ → List ℕ → ℕ → ℕ
start_of from ends zero = from
start_of from ends (suc x) = slice_index ends x

-- empty rows in the places of these
abbrev pub emptied_from : ℕ → List ℕ → List Span
emptied_from from [] = []
emptied_from from (end ∷ ends) = record { from = from; to = from; limit = end } ∷ emptied_from end ends

-- the row that stands in the list from `from` to `to`
abbrev pub span_in : {A : Type 0} → List A → Span → List A
span_in items s = slice_range items s.from s.to

-- the same span, whatever its numbers are stored in
abbrev pub widened : NarrowSpan → Span
widened s = record { from = s.from; to = s.to; limit = s.limit }

-- span x
abbrev pub span_at : List Span → ℕ → Span
span_at spans x = slice_index_or spans x (record { from = 0; to = 0; limit = 0 })

-- a row that is one longer
abbrev pub grown : Span → Span
grown s = record { from = s.from; to = s.to + 1; limit = s.limit }

-- how long the row may get
abbrev pub room_in : Span → ℕ
room_in s = s.limit - s.from

-- each row stands behind the limit of the one before, and all of them within the first `count` places
abbrev pub ArePacked : ℕ → List Span → ℕ → Type 0
ArePacked start [] count = start ≤ count
ArePacked start (s ∷ spans) count = (start ≤ s.from) × (s.from ≤ s.to) × (s.to ≤ s.limit) × ArePacked s.limit spans count

-- rows of bits that grow, and how long each may get
pub record PlainDecisions : Type 0 where
  pub rows : List (List Bool)
  pub room : List ℕ
