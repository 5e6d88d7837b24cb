-- Lists of numbers, each within the list of lists.
use Rattle.std.specs.Prelude.{ℕ, ◌<◌, List, length, All}

-- each number of each row is the number of a row
abbrev pub AreWithin : List (List ℕ) → Type 0
AreWithin rows = All (λ row. All (λ x. x < length rows) row) rows
