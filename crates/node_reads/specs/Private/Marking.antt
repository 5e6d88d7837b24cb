-- Rows while the pins of one node, or the numbers of one row, are gone through.
use Rattle.std.specs.Prelude.{◌≡◌, ℕ, ◌+◌, ◌<◌, ◌==◌, Bool, not, ◌&&◌, List, [], ◌∷◌, ◌++◌, length, take, slice_index_or, if◌then◌else◌}
use Rattle.std.specs.List.{list_any}
use Rattle.flat_net.specs.Net.{Net, node_of, pins_at}
use Rattle.node_reads.specs.Noting.{related}

-- row x lists the numbers below k that stand in relation r to x, and behind them k itself, if the row is marked
pub record ListsMarked (r : ℕ → ℕ → Bool) (k count : ℕ) (marked : ℕ → Bool) (rows : List (List ℕ)) : Type 0 where
  pub long : length rows ≡ count
  pub row : (x : ℕ) → x < count → slice_index_or rows x [] ≡ related r k x ++ (if marked x then k ∷ [] else [])

-- the first j pins of node y name node x, another node than y
abbrev pub marked_by_pins : Net → ℕ → ℕ → ℕ → Bool
marked_by_pins n y j x = not (x == y) && list_any (λ pin. pin == length n.inputs + x) (take j (pins_at (node_of n (length n.inputs + y))))

-- the first j numbers of a row name z
abbrev pub marked_by_row : List ℕ → ℕ → ℕ → Bool
marked_by_row row j z = list_any (λ m. m == z) (take j row)
