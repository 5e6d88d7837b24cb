-- What a depth-first search ends with.
use Rattle.std.specs.Prelude.{◌≡◌, ℕ, ◌<◌, ◌≤◌, Bool, true, false, List, length, slice_index, slice_index_or}
use Rattle.graph.specs.Rows.{row, Stands, IsOnce}
use Rattle.graph.specs.Lists.{Leads}

-- read j of vertex y is cut
abbrev pub is_cut : List (List Bool) → ℕ → ℕ → Bool
is_cut cut y j = slice_index_or (row cut y) j false

-- vertex y reads vertex x at a place that is not cut
pub record Kept (rows : List (List ℕ)) (cut : List (List Bool)) (x y : ℕ) : Type 0 where
  pub place : ℕ
  pub within : place < length (row cut y)
  pub uncut : is_cut cut y place ≡ false
  pub is : slice_index (row rows y) place ≡ x
  pub vertex : x < length rows

-- all vertices in an order, each once, and which of their reads are cut. A vertex stands after each vertex that it reads
-- uncut. Uncut reads lead from the reader of a cut read to the vertex read, and so they do from each vertex between the two
pub record IsSearched (rows : List (List ℕ)) (order : List ℕ) (cut : List (List Bool)) : Type 0 where
  pub vertices : length cut ≡ length rows
  pub reads : (y : ℕ) → length (row cut y) ≡ length (row rows y)
  pub within : (k : ℕ) → k < length order → slice_index order k < length rows
  pub complete : (x : ℕ) → x < length rows → Stands order x
  pub once : IsOnce order
  pub few : length order ≤ length rows
  pub after : (k x : ℕ) → k < length order → Kept rows cut x (slice_index order k) → (j : ℕ) × (j < k) × (slice_index order j ≡ x)
  pub inside : (y i : ℕ) → is_cut cut y i ≡ true → slice_index (row rows y) i < length rows
  pub needed : (y i : ℕ) → is_cut cut y i ≡ true → Leads (Kept rows cut) y (slice_index (row rows y) i)
  pub between : (k i m q : ℕ) → k ≤ m → m ≤ q → q < length order
      → is_cut cut (slice_index order k) i ≡ true → slice_index order q ≡ slice_index (row rows (slice_index order k)) i
      → Leads (Kept rows cut) (slice_index order m) (slice_index order q)
