-- Orders of the vertices that roots lead to, and cycles among them.
use Rattle.std.specs.Prelude.{◌≡◌, ℕ, suc, ◌-◌, ◌<◌, ◌≤◌, List, length, slice_index}
use Rattle.graph.specs.Rows.{Stands, IsOnce, Follows}

-- the first `roots` vertices are reached, and so is each vertex that a reached one reads
pub data Reached (rows : List (List ℕ)) (roots : ℕ) : ℕ → Type 0 where
  is_root : (x : ℕ) → x < roots → Reached rows roots x
  is_read : (x y : ℕ) → Reached rows roots y → Follows rows x y → Reached rows roots x

-- all reached vertices, each once, each after each that it reads
pub record IsOrder (rows : List (List ℕ)) (roots : ℕ) (order : List ℕ) : Type 0 where
  pub within : (k : ℕ) → k < length order → slice_index order k < length rows
  pub reached : (k : ℕ) → k < length order → Reached rows roots (slice_index order k)
  pub complete : (x : ℕ) → Reached rows roots x → Stands order x
  pub once : IsOnce order
  pub after : (k x : ℕ) → k < length order → Follows rows x (slice_index order k) → (j : ℕ) × (j < k) × (slice_index order j ≡ x)

-- reached vertices of which each reads the next and the last reads the first, none twice, beginning with the least number
pub record IsCycle (rows : List (List ℕ)) (roots : ℕ) (cycle : List ℕ) : Type 0 where
  pub some : 0 < length cycle
  pub reached : (k : ℕ) → k < length cycle → Reached rows roots (slice_index cycle k)
  pub next : (k : ℕ) → suc k < length cycle → Follows rows (slice_index cycle (suc k)) (slice_index cycle k)
  pub closed : Follows rows (slice_index cycle 0) (slice_index cycle (length cycle - 1))
  pub once : IsOnce cycle
  pub least : (k : ℕ) → k < length cycle → slice_index cycle 0 ≤ slice_index cycle k
