-- An order by the places of its entries, which proofs go by.
use Rattle.std.specs.Prelude.{◌≡◌, ◌≢◌, ℕ, ◌<◌, ◌≤◌, List, length, slice_index}
use Rattle.flat_net.specs.Net.{Net, node_of, net_count, table_pins, IsTable}

-- where pin i of the table at k is a table, that one stands before k
abbrev pub ComesBefore : Net → List ℕ → ℕ → ℕ → Type 0
ComesBefore n order k i =
    let pins = table_pins (node_of n (slice_index order k)) in
    i < length pins → IsTable (node_of n (slice_index pins i)) → (j : ℕ) × (j < k) × (slice_index order j ≡ slice_index pins i)

-- the net numbers of all nodes, each once, each table after each table that it reads
pub record IsOrderByPlace (n : Net) (order : List ℕ) : Type 0 where
  pub nodes : (k : ℕ) → k < length order → (length n.inputs ≤ slice_index order k) × (slice_index order k < net_count n)
  pub complete : (x : ℕ) → length n.inputs ≤ x → x < net_count n → (k : ℕ) × (k < length order) × (slice_index order k ≡ x)
  pub once : (j k : ℕ) → j < k → k < length order → slice_index order j ≢ slice_index order k
  pub after : (k i : ℕ) → k < length order → ComesBefore n order k i
