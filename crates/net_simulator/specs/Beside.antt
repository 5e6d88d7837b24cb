-- Only private functions cite this: a cycle of a design beside that of another one.
use Rattle.std.specs.Prelude.{◌≡◌, ℕ, ◌<◌, Bool, false, All, List, length, map, Option, Some, None, slice_index}
use Rattle.std.specs.List.{range_with_len}
use Rattle.table_cover.specs.Cover.{IsMajority}
use Rattle.flat_net.specs.Net.{Net, Node, Table, Register, net_count, node_of, pins_at, table_pins, IsTable, IsCoverOf}
use Rattle.flat_net.specs.Nodes.{number_of}
use Rattle.graph.specs.Rows.{row, Stands}
use Rattle.net_meaning.specs.Meaning.{bit}
use Rattle.net_simulator.specs.Settled.{marked}
use Rattle.net_simulator.specs.Twins.{table_value, AreTablesMet}
use Rattle.net_simulator.specs.declared.marks.Marks.{Marks}
use Rattle.net_simulator.specs.declared.twins.Twins.{Twins}
use Rattle.net_simulator.specs.declared.changes.Changes.{Changes}

-- the first pins stand for the others, place by place
abbrev pub StandFor : List ℕ → List ℕ → List ℕ → Type 0
StandFor origins pins others = (i : ℕ) → i < length pins → slice_index origins (slice_index pins i) ≡ slice_index others i

-- they stand for net x
abbrev pub StandForOne : List ℕ → List ℕ → ℕ → Type 0
StandForOne origins pins x = (i : ℕ) → i < length pins → slice_index origins (slice_index pins i) ≡ x

-- a table of the same rows, whose pins stand for those of the other one
abbrev pub IsCopy : Option Node → Option Node → List ℕ → Type 0
IsCopy None o origins = ⊥
IsCopy (Some (Register name init pin)) o origins = ⊥
IsCopy (Some (Table name cover pins)) o origins = IsCoverOf o cover × (length (table_pins o) ≡ length pins) × StandFor origins (table_pins o) pins

-- a majority of nets that stand for net x
abbrev pub IsVote : Option Node → List ℕ → ℕ → Type 0
IsVote None origins x = ⊥
IsVote (Some (Register name init pin)) origins x = ⊥
IsVote (Some (Table name cover pins)) origins x = IsMajority cover × (length pins ≡ 3) × StandForOne origins pins x

-- where the pins of a table have the values of the nets that they stand for, it has that of net x
abbrev pub IsAlike : Net → Option Node → List ℕ → ℕ → Type 0
IsAlike n o origins x = (v w : List Bool) → AreTablesMet n w
    → ((i : ℕ) → i < length (table_pins o) → bit v (slice_index (table_pins o) i) ≡ bit w (slice_index origins (slice_index (table_pins o) i)))
    → table_value o v ≡ bit w x

-- this holds of a table, unless it is marked
abbrev pub IsUnlikeOnly : Net → Option Node → List ℕ → ℕ → Bool → Type 0
IsUnlikeOnly n o origins x unlike = IsTable o → unlike ≡ false → IsAlike n o origins x

-- what net y reads, and what each net reads
abbrev pub net_row : Net → ℕ → List ℕ
net_row h y = pins_at (node_of h y)

abbrev pub net_rows : Net → List (List ℕ)
net_rows h = map (net_row h) (range_with_len 0 (net_count h))

-- each table stands among the readers of its pins
abbrev pub AreReadersOf : Net → List (List ℕ) → Type 0
AreReadersOf h readers = (y i : ℕ) → i < length (table_pins (node_of h y)) → Stands (row readers (slice_index (table_pins (node_of h y)) i)) y

-- the net that net y stands for
abbrev pub origin_of : Twins → ℕ → ℕ
origin_of t y = slice_index (map number_of t.origins.items) y

-- what is kept of the nets of h beside those of n
pub record AreTwins (n h : Net) (t : Twins) : Type 0 where
  pub long : length t.origins.items ≡ net_count h
  pub range : All (λ o. o.0 < net_count n) t.origins.items
  pub unlike : length t.unlike.items ≡ net_count h
  pub alike : (y : ℕ) → y < net_count h → IsUnlikeOnly n (node_of h y) (map number_of t.origins.items) (origin_of t y) (bit t.unlike.items y)
  pub rows : length t.readers ≡ net_count h
  pub readers : AreReadersOf h t.readers

-- there is room for what becomes of so many nets
pub record IsRoom (count : ℕ) (t : Twins) (c : Changes) : Type 0 where
  pub origins : length t.origins.items ≡ count
  pub range : All (λ o. o.0 < length c.differing.items) t.origins.items
  pub rows : length t.readers ≡ count
  pub due : length c.due.items ≡ count

-- each net has the word of the net that it stands for
abbrev pub AreOwn : Twins → List ℕ → List ℕ → Type 0
AreOwn t own now = (y : ℕ) → y < length now → slice_index now y ≡ slice_index own (origin_of t y)

-- each table has it
abbrev pub AreTablesOwn : Net → Twins → List ℕ → List ℕ → Type 0
AreTablesOwn h t own now = (y : ℕ) → IsTable (node_of h y) → slice_index now y ≡ slice_index own (origin_of t y)

-- where the words depart from `own`, those of the other design, it is noted; what is not to be evaluated is like its origin and not forced
pub record IsBeside (h : Net) (t : Twins) (m : Marks) (own now : List ℕ) (c : Changes) : Type 0 where
  pub same : (y : ℕ) → y < length now → bit c.differing.items (origin_of t y) ≡ false → slice_index now y ≡ slice_index own (origin_of t y)
  pub pins : (y i : ℕ) → y < length now → bit c.due.items y ≡ false → i < length (table_pins (node_of h y))
      → slice_index (table_pins (node_of h y)) i < length now
      → slice_index now (slice_index (table_pins (node_of h y)) i) ≡ slice_index own (origin_of t (slice_index (table_pins (node_of h y)) i))
  pub alike : (y : ℕ) → y < length now → bit c.due.items y ≡ false → bit t.unlike.items y ≡ false
  pub free : (j y : ℕ) → j < 64 → y < length now → bit c.due.items y ≡ false → marked m j y ≡ None
