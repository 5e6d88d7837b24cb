-- Rows of what tables read: their orders are orders of the nodes, and their cycles are loops of tables.
use Rattle.std.proofs.Common.{◌≡◌, ℕ, suc, ◌+◌, ◌-◌, ◌<◌, ◌≤◌, ◌⊎◌, List, [], map, length, get_or, refl, sym, ap, ◌∙◌, subst, inl, inr, arith, Option, Some, None}
use Rattle.std.proofs.lemmas.Bool.{cases_lt}
use Rattle.std.proofs.lemmas.Bool.Decides.{nat_tests}
use Rattle.std.proofs.lemmas.List.{get_or-map, get_or_default, length-map}
use Rattle.std.proofs.lemmas.List.FromFn.{get_or-map-range_with_len, length-map-range_with_len}
use Rattle.graph.specs.Rows.{row, Stands, Follows}
use Rattle.graph.specs.Orders.{Reached, is_root, is_read, IsCycle, IsOrder as IsRowOrder}
use Rattle.graph.proofs.Places.{reader_within}
use Rattle.flat_net.specs.Net.{Net, Node, Table, Register, node_of, net_count, table_pins, IsTable, IsOrder}
use Rattle.flat_net.specs.Private.ByPlace.{ComesBefore}
use Rattle.flat_net.specs.Loop.{ReadsTable, IsLoop}
use Rattle.flat_net.specs.Private.TableReads.{read_of, table_row, table_rows}
use Rattle.flat_net.proofs.Ranges.{table_within}
use Rattle.flat_net.proofs.ByPlace.{from_places}

pub no_reads : (o : Option Node) → (IsTable o → ⊥) → table_pins o ≡ []
no_reads None none = refl
no_reads (Some (Table name cover pins)) none = absurd (none tt)
no_reads (Some (Register name init pin)) none = refl

read_outside : (inputs past x : ℕ) → x < inputs → read_of inputs past x ≡ past
unfolding read_of
read_outside inputs past x l = grind (arith, nat_tests)

read_node : (inputs past x : ℕ) → inputs ≤ x → read_of inputs past x ≡ x - inputs
unfolding read_of
read_node inputs past x l = grind (arith, nat_tests)

module _ (n : Net) where
  pub rows_long : length (table_rows n) ≡ length n.nodes
  rows_long = length-map-range_with_len (table_row n) 0 (length n.nodes)

  row_at : (y : ℕ) → y < length n.nodes → row (table_rows n) y ≡ table_row n y
  row_at y l = get_or-map-range_with_len (table_row n) 0 (length n.nodes) y y [] l (omega arith)

  pub reached_node : (x : ℕ) → Reached (table_rows n) (length n.nodes) x → x < length n.nodes
  reached_node _ (is_root x l) = l
  reached_node _ (is_read x y r f) = omega (arith, rows_long, f.vertex)

  -- what a row names is a pin
  reads_table : (x y : ℕ) → Follows (table_rows n) x y → ReadsTable n (length n.inputs + y) (length n.inputs + x)
  reads_table x y f = go (cases_lt (get_or pins f.place 0) (length n.inputs))
    where
      node : y < length n.nodes
      node = omega (arith, rows_long, reader_within (table_rows n) x y f)

      pins : List ℕ
      pins = table_pins (node_of n (length n.inputs + y))

      below : f.place < length pins
      below = let w = f.within in omega (arith, ap length (row_at y node), length-map pins (read_of (length n.inputs) (length n.nodes)))

      is : read_of (length n.inputs) (length n.nodes) (get_or pins f.place 0) ≡ x
      is = sym (ap (λ r. get_or r f.place 0) (row_at y node) ∙ get_or-map (read_of (length n.inputs) (length n.nodes)) pins f.place 0 0 below) ∙ f.is

      go : (get_or pins f.place 0 < length n.inputs) ⊎ (length n.inputs ≤ get_or pins f.place 0) → ReadsTable n (length n.inputs + y) (length n.inputs + x)
      go (inl l) = absurd (let v = f.vertex in omega (arith, rows_long, is, read_outside (length n.inputs) (length n.nodes) (get_or pins f.place 0) l))
      go (inr l) =
          let at : get_or pins f.place 0 ≡ length n.inputs + x = omega (arith, is, read_node (length n.inputs) (length n.nodes) (get_or pins f.place 0) l) in
          (f.place, below, get_or_default pins f.place (length n.inputs + x) 0 below ∙ at)

  -- a pin that names a table is named by the row
  follows : (x y i : ℕ) → y < length n.nodes → i < length (table_pins (node_of n (length n.inputs + y))) → get_or (table_pins (node_of n (length n.inputs + y))) i 0 ≡ length n.inputs + x → x < length n.nodes → Follows (table_rows n) x y
  follows x y i node below at vertex = record {
    place = i;
    within = omega (arith, below, ap length (row_at y node), length-map (table_pins (node_of n (length n.inputs + y))) (read_of (length n.inputs) (length n.nodes)));
    is = ap (λ r. get_or r i 0) (row_at y node) ∙ (get_or-map (read_of (length n.inputs) (length n.nodes)) (table_pins (node_of n (length n.inputs + y))) i 0 0 below ∙ (omega (arith, at, read_node (length n.inputs) (length n.nodes) (get_or (table_pins (node_of n (length n.inputs + y))) i 0) (omega (arith, at)))));
    vertex = omega (arith, rows_long, vertex);
  }

module _ (n : Net) (nodes nets : List ℕ) (are : nets ≡ map (λ x. length n.inputs + x) nodes) where
  long : length nets ≡ length nodes
  long = ap length are ∙ length-map nodes (λ x. length n.inputs + x)

  net_at : (k : ℕ) → k < length nodes → get_or nets k 0 ≡ length n.inputs + get_or nodes k 0
  net_at k h = ap (λ xs. get_or xs k 0) are ∙ get_or-map (λ x. length n.inputs + x) nodes k 0 0 h

  pub loop_of : (roots : ℕ) → IsCycle (table_rows n) roots nodes → IsLoop n nets
  loop_of roots c = record {
    some = let s = c.some in omega (arith, long);
    next = λ k h. next k (omega (arith, h, long));
    closed = rw long (rw (net_at (length nodes - 1) (let s = c.some in omega arith), net_at 0 c.some) (reads_table n (get_or nodes 0 0) (get_or nodes (length nodes - 1) 0) c.closed));
    once = λ j k jk h e. c.once.apart j k jk (omega (arith, h, long)) (omega (arith, sym (net_at j (omega (arith, h, long, jk))) ∙ (e ∙ net_at k (omega (arith, h, long)))));
    least = λ k h. let s = c.some in omega (arith, net_at 0 s, net_at k (omega (arith, h, long)), c.least k (omega (arith, h, long)));
  }
    where
      next : (k : ℕ) → suc k < length nodes → ReadsTable n (get_or nets k 0) (get_or nets (suc k) 0)
      next k h = rw (net_at k (omega arith), net_at (suc k) h) (reads_table n (get_or nodes (suc k) 0) (get_or nodes k 0) (c.next k h))

  pub order_of : IsRowOrder (table_rows n) (length n.nodes) nodes → IsOrder n nets
  order_of o = from_places n nets (record {
    nodes = λ k h. nodes_at k (omega (arith, h, long));
    complete = λ x low high. complete x low (o.complete (x - length n.inputs) (is_root (x - length n.inputs) (omega arith)));
    once = λ j k jk h e. o.once.apart j k jk (omega (arith, h, long)) (omega (arith, sym (net_at j (omega (arith, h, long, jk))) ∙ (e ∙ net_at k (omega (arith, h, long)))));
    after = λ k i h. after k i (omega (arith, h, long));
  })
    where
      nodes_at : (k : ℕ) → k < length nodes → (length n.inputs ≤ get_or nets k 0) × (get_or nets k 0 < net_count n)
      nodes_at k h = let w = o.within k h in (omega (arith, net_at k h), omega (arith, net_at k h, w, rows_long n))

      complete : (x : ℕ) → length n.inputs ≤ x → Stands nodes (x - length n.inputs) → (k : ℕ) × (k < length nets) × (get_or nets k 0 ≡ x)
      complete x low st = let b = st.below in (st.at, omega (arith, long), omega (arith, net_at st.at b, st.is, low))

      after : (k i : ℕ) → k < length nodes → ComesBefore n nets k i
      after k i h below table = go (o.after k (pin - length n.inputs) h (follows n (pin - length n.inputs) (get_or nodes k 0) i (let w = o.within k h in omega (arith, rows_long n)) (subst (λ z. i < length (table_pins (node_of n z))) (net_at k h) below) (ap (λ z. get_or (table_pins (node_of n z)) i 0) (sym (net_at k h)) ∙ (omega (arith, range))) (omega (arith, range))))
        where
          pin : ℕ
          pin = get_or (table_pins (node_of n (get_or nets k 0))) i 0

          range : (length n.inputs ≤ pin) × (pin < net_count n)
          range = table_within n pin table

          go : (j : ℕ) × (j < k) × (get_or nodes j 0 ≡ pin - length n.inputs) → (j : ℕ) × (j < k) × (get_or nets j 0 ≡ pin)
          go (j, l, e) = (j, l, omega (arith, net_at j (omega (arith, l, h)), e, range))
