-- What was noted in rows, dealt to blocks of rows that stand one behind the other.
use Rattle.std.specs.Prelude.{◌≡◌, ℕ, ◌/◌, ◌%◌, ◌<◌, ◌==◌, List, [], ◌∷◌, ◌++◌, length, map, slice_index_or, slice_set, Vec, if◌then◌else◌}
use Rattle.std.specs.declared.alloc.Global.{Global}
use Rattle.node_reads.specs.declared.notes.Note.{Note}

-- a note as it stands in its block of `size` rows, where rows are numbered from the first of the block
abbrev pub own_note : ℕ → Note → Note
own_note size note = record { row = note.row % size; number = note.number }

-- what was noted in block b of `size` rows
abbrev pub block_of : ℕ → ℕ → List Note → List Note
block_of size b [] = []
block_of size b (note ∷ log) = if note.row / size == b then own_note size note ∷ block_of size b log else block_of size b log

-- what these lists have
abbrev pub logs_of : List (Vec Note Global) → List (List Note)
logs_of blocks = map (λ block. block.items) blocks

-- a note was put behind what its block has
abbrev pub dealt_to : ℕ → Note → List (List Note) → List (List Note)
dealt_to size note blocks = slice_set blocks (note.row / size) (slice_index_or blocks (note.row / size) [] ++ own_note size note ∷ [])

-- each of the first `count` blocks has what was noted in its rows
pub record AreDealt (size count : ℕ) (log : List Note) (blocks : List (List Note)) : Type 0 where
  pub long : length blocks ≡ count
  pub each : (b : ℕ) → b < count → slice_index_or blocks b [] ≡ block_of size b log
