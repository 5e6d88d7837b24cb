-- A design that runs beside another one, where each net stands for a net of the other.
use Rattle.std.specs.Prelude.{◌≡◌, ℕ, ◌<◌, Bool, false, List, length, map, Option, Some, None, slice_index}
use Rattle.table_cover.specs.Cover.{cover_value}
use Rattle.flat_net.specs.Net.{Net, Node, Table, Register, node_of, IsTable}
use Rattle.net_meaning.specs.Meaning.{bit}

-- what a table's equation gives it, where v are the values of its cycle
abbrev pub table_value : Option Node → List Bool → Bool
table_value None v = false
table_value (Some (Table name cover pins)) v = cover_value cover (map (bit v) pins)
table_value (Some (Register name init pin)) v = false

-- no table is forced: each has what its equation gives it
abbrev pub AreTablesMet : Net → List Bool → Type 0
AreTablesMet n v = (x : ℕ) → IsTable (node_of n x) → bit v x ≡ table_value (node_of n x) v

-- a simulator of 64 runs of a design beside those of another one: the design, and a word for each net in the last cycle, if there
-- was one; the other design; the net of it that each net stands for; and for each of its nets whether nets that stand for it may have
-- another word
pub record TwinRun : Type 0 where
  pub net : Net
  pub last : Option (List ℕ)
  pub original : Net
  pub origins : List ℕ
  pub differing : List Bool

-- each net has the word of the net that it stands for, but where that one is marked
abbrev pub AreWordsBut : List Bool → List ℕ → List ℕ → List ℕ → Type 0
AreWordsBut marks origins own words =
    (y : ℕ) → y < length origins → bit marks (slice_index origins y) ≡ false
    → slice_index words y ≡ slice_index own (slice_index origins y)
