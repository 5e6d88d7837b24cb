-- Rows of numbers, kept as one list of all that was noted in them, in the order in which it was.
use Rattle.std.specs.Prelude.{◌≡◌, ℕ, suc, ◌+◌, ◌-◌, ◌<◌, min, ◌==◌, ◌&&◌, Bool, nat_lt, List, [], ◌∷◌, All, length, map, slice_index, slice_index_or, if◌then◌else◌}
use Rattle.std.specs.List.{range_with_len}
use Rattle.node_reads.specs.declared.notes.Note.{Note}
use Rattle.node_reads.specs.declared.notes.Tally.{Tally}

-- what was noted in row x
abbrev pub row_of : List Note → ℕ → List ℕ
row_of [] x = []
row_of (note ∷ log) x = if note.row == x then note.number ∷ row_of log x else row_of log x

-- the first `count` rows
abbrev pub rows_of : ℕ → List Note → List (List ℕ)
rows_of count log = map (row_of log) (range_with_len 0 count)

-- how much was noted in the rows before row x: where it begins, if all rows stand one behind the other
abbrev pub start_in : List Note → ℕ → ℕ
start_in [] x = 0
start_in (note ∷ log) x = (if nat_lt note.row x then 1 else 0) + start_in log x

-- how many numbers a row has, as far as 32 bits count them, and the last of them
abbrev pub tally_of : List ℕ → Tally
tally_of row = record { count = min (length row) 4294967295; last = slice_index row (length row - 1) }

-- that of row x
abbrev pub tally_at : List Tally → ℕ → Tally
tally_at tallies x = slice_index_or tallies x (record { count = 0; last = 0 })

-- k is the last number of a row with this tally
abbrev pub is_last : Tally → ℕ → Bool
is_last tally k = nat_lt 0 tally.count && tally.last == k

-- the tally of a row behind which k was put
abbrev pub tallied : Tally → ℕ → Tally
tallied tally k = record { count = min (tally.count + 1) 4294967295; last = k }

-- all that was noted was noted in one of the rows
abbrev pub AreIn : ℕ → List Note → Type 0
AreIn count log = All (λ (note : Note). note.row < count) log

-- the tallies of all rows
pub record AreTallies (tallies : List Tally) (log : List Note) : Type 0 where
  pub rows : AreIn (length tallies) log
  pub few : length log < 18446744073709551616
  pub each : (x : ℕ) → x < length tallies → tally_at tallies x ≡ tally_of (row_of log x)

-- where each row begins
pub record AreStarts (count : ℕ) (log : List Note) (starts : List ℕ) : Type 0 where
  pub long : length starts ≡ count
  pub each : (x : ℕ) → x < count → slice_index starts x ≡ start_in log x

-- where each row ends
pub record AreEnds (count : ℕ) (log : List Note) (ends : List ℕ) : Type 0 where
  pub long : length ends ≡ count
  pub each : (x : ℕ) → x < count → slice_index ends x ≡ start_in log (suc x)

-- the first `count` rows stand one behind the other
pub record AreLaid (count : ℕ) (log : List Note) (flat : List ℕ) : Type 0 where
  pub long : length flat ≡ length log
  pub each : (x j : ℕ) → x < count → j < length (row_of log x) → slice_index flat (start_in log x + j) ≡ slice_index (row_of log x) j
