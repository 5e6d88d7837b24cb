-- The rows and the gates of all tables, node by node in an order.
use Rattle.std.proofs.Common.{◌≡◌, ℕ, ◌+◌, ◌*◌, ◌≤◌, List, length, drop, Option, Some, None, refl, sym, ap, arith}
use Rattle.std.specs.Prelude.{slice_get}
use Rattle.flat_net.specs.Net.{Net, Node, Table, Register, node_of, IsTable, IsOrder, IsCoverOf}
use Rattle.table_cover.specs.Cover.{PlainCover}
use Rattle.hierarchy.specs.Sizes.{row_places, row_total}
use Rattle.aag_text.specs.Taken.{cover_gates, node_gates, gate_total}
use Rattle.aag_text.specs.Private.Gates.{rows_at, gates_at}
use Rattle.aag_text.proofs.Totals.{no_node, total, total_more, total_end, order_total}

-- the rows of a table's cover
pub cover_rows : (o : Option Node) (k : PlainCover) → IsCoverOf o k → length k.rows * (k.width + 1) ≡ rows_at o
cover_rows None k is = absurd is
cover_rows (Some (Table name cover pins)) k is = ap (λ (c : PlainCover). length c.rows * (c.width + 1)) (sym is)
cover_rows (Some (Register name init pin)) k is = absurd is

-- the gates of a table's cover
pub cover_takes : (o : Option Node) (k : PlainCover) → IsCoverOf o k → cover_gates k ≡ gates_at o
cover_takes None k is = absurd is
cover_takes (Some (Table name cover pins)) k is = ap cover_gates (sym is)
cover_takes (Some (Register name init pin)) k is = absurd is

-- what is no table takes none
pub takes_none : (o : Option Node) (count : ℕ) → (IsTable o → ⊥) → count ≡ count + gates_at o
takes_none None count no_table = omega arith
takes_none (Some (Table name cover pins)) count no_table = absurd (no_table tt)
takes_none (Some (Register name init pin)) count no_table = omega arith

no_places : row_places no_node ≡ 0
unfolding no_node
no_places = refl

no_gates : node_gates no_node ≡ 0
unfolding no_node
no_gates = refl

-- the rows of the nodes in an order
abbrev pub order_rows : Net → List ℕ → ℕ
order_rows n order = total (λ x. rows_at (node_of n x)) order

pub all_rows : (n : Net) (order : List ℕ) → IsOrder n order → order_rows n order ≤ row_total n
all_rows n order is = let same = order_total row_places no_places rows_at (λ node. refl) n order is in omega (arith, same)

-- one place of the order more
pub rows_more : (n : Net) (order : List ℕ) (i x : ℕ) → slice_get order i ≡ Some x → order_rows n (drop i order) ≡ rows_at (node_of n x) + order_rows n (drop (i + 1) order)
rows_more n order i x at = total_more (λ y. rows_at (node_of n y)) order i x at

-- the gates of the nodes in an order
abbrev pub order_gates : Net → List ℕ → ℕ
order_gates n order = total (λ x. gates_at (node_of n x)) order

pub all_gates : (n : Net) (order : List ℕ) → IsOrder n order → order_gates n order ≡ gate_total n
all_gates n order is = order_total node_gates no_gates gates_at (λ node. refl) n order is

pub gates_more : (n : Net) (order : List ℕ) (i x : ℕ) → slice_get order i ≡ Some x → order_gates n (drop i order) ≡ gates_at (node_of n x) + order_gates n (drop (i + 1) order)
gates_more n order i x at = total_more (λ y. gates_at (node_of n y)) order i x at

pub gates_end : (n : Net) (order : List ℕ) (i : ℕ) → length order ≤ i → order_gates n (drop i order) ≡ 0
gates_end n order i le = total_end (λ x. gates_at (node_of n x)) order i le
