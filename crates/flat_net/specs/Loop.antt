-- Loops of tables.
use Rattle.std.specs.Prelude.{◌≢◌, ℕ, suc, ◌-◌, ◌<◌, ◌≤◌, List, length, slice_index, Contains}
use Rattle.flat_net.specs.Net.{Net, node_of, table_pins}

-- x is a table, and y is a pin of it
abbrev pub ReadsTable : Net → ℕ → ℕ → Type 0
ReadsTable n x y = Contains (table_pins (node_of n x)) y

-- tables of which each reads the next and the last reads the first, none twice, beginning with the least number
pub record IsLoop (n : Net) (tables : List ℕ) : Type 0 where
  pub some : 0 < length tables
  pub next : (k : ℕ) → suc k < length tables → ReadsTable n (slice_index tables k) (slice_index tables (suc k))
  pub closed : ReadsTable n (slice_index tables (length tables - 1)) (slice_index tables 0)
  pub once : (j k : ℕ) → j < k → k < length tables → slice_index tables j ≢ slice_index tables k
  pub least : (k : ℕ) → k < length tables → slice_index tables 0 ≤ slice_index tables k
