-- Gates that are added one after the other.
use Rattle.std.specs.Prelude.{◌≡◌, ℕ, suc, ◌+◌, ◌-◌, ◌<◌, ◌≤◌, Bool, true, false, List, [], ◌∷◌, map, length, count_by, sum_by, Option, Some, None, All, if◌then◌else◌}
use Rattle.table_cover.specs.Cover.{row_matches, some_row_matches}
use Rattle.flat_net.specs.Net.{Node}
use Rattle.hierarchy.specs.Sizes.{row_places}
use Rattle.aag_text.specs.declared.aig.Literal.{Literal}
use Rattle.aag_text.specs.declared.aig.Gate.{Gate}
use Rattle.aag_text.specs.Aig.{literal_value, IsMet, IsGreaterFirst}
use Rattle.aag_text.specs.Taken.{is_given, row_gates, node_gates}

-- the number of the first gate's variable, and the gates
pub record PlainGates : Type 0 where
  pub first : ℕ
  pub list : List Gate

-- the number of the next gate's variable
abbrev pub next_of : PlainGates → ℕ
next_of g = g.first + length g.list

-- all gates are met
unfoldable pub AreMet : (ℕ → Bool) → List Gate → Type 0
AreMet values [] = Unit {0}
AreMet values (g ∷ gates) = IsMet values g × AreMet values gates

-- the gates have the variables from `next` on in order, and read lesser ones, the greater literal first
unfoldable pub AreStacked : ℕ → List Gate → Type 0
AreStacked next [] = Unit {0}
AreStacked next (g ∷ gates) =
    (g.variable ≡ next) × (g.left.variable < next) × (g.right.variable < next) × IsGreaterFirst g × AreStacked (suc next) gates

-- at most so many gates more; where these are met, those before are
pub record Grows (count : ℕ) (old new : PlainGates) : Type 0 where
  pub first : new.first ≡ old.first
  pub longer : length old.list ≤ length new.list
  pub bound : length new.list ≤ length old.list + count
  pub met : (values : ℕ → Bool) → AreMet values new.list → AreMet values old.list

-- the value of the conjunction so far; with nothing in it, it is 1
abbrev pub all_value : (ℕ → Bool) → Option Literal → Bool
all_value values None = true
all_value values (Some l) = literal_value values l

-- the value of the disjunction so far; with nothing in it, it is 0
abbrev pub any_value : (ℕ → Bool) → Option Literal → Bool
any_value values None = false
any_value values (Some l) = literal_value values l

-- the variable is below this one
abbrev pub IsBelow : ℕ → Option Literal → Type 0
IsBelow next None = Unit {0}
IsBelow next (Some l) = l.variable < next

abbrev pub AreBelow : ℕ → List Literal → Type 0
AreBelow next pins = All (λ (p : Literal). p.variable < next) pins

-- a row matches the values of the pins
unfoldable pub row_value : (ℕ → Bool) → List ℕ → List Literal → Bool
row_value values row pins = row_matches row (map (literal_value values) pins)

-- some row matches the values of the pins
unfoldable pub rows_value : (ℕ → Bool) → List (List ℕ) → List Literal → Bool
rows_value values rows pins = some_row_matches rows (map (literal_value values) pins)

-- the rows of a net's cover, each of the cover's width plus 1; an input has none
abbrev pub rows_at : Option Node → ℕ
rows_at None = 0
rows_at (Some node) = row_places node

-- one gate joins what is given to the literals so far, where there are some
abbrev pub joins : Option Literal → Bool → ℕ
joins None given = 0
joins (Some l) given = if given then 1 else 0

-- the gates that the rest of a row takes, behind the conjunction so far
abbrev pub marks_left : Option Literal → List ℕ → ℕ
marks_left None row = row_gates row
marks_left (Some l) row = count_by is_given row

-- the gates that the rest of the rows takes, behind the disjunction so far
abbrev pub rows_left : Option Literal → List (List ℕ) → ℕ
rows_left None rows = sum_by row_gates rows + (length rows - 1)
rows_left (Some l) rows = sum_by row_gates rows + length rows

-- the gates of a net; an input takes none
abbrev pub gates_at : Option Node → ℕ
gates_at None = 0
gates_at (Some node) = node_gates node
