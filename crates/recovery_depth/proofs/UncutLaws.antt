-- What is read through uncut pins, as rows.
use Rattle.std.proofs.Common.{◌≡◌, ℕ, ◌+◌, ◌<◌, ◌≤◌, ◌⊎◌, Bool, true, false, List, [], ◌∷◌, length, get_or, map, refl, sym, ◌∙◌, ap, subst, inl, inr, arith}
use Rattle.std.specs.Prelude.{cond, Option, Some, None}
use Rattle.std.specs.List.{range_with_len}
use Rattle.std.proofs.lemmas.Bool.{cases_lt}
use Rattle.std.proofs.lemmas.List.{get_or_past}
use Rattle.std.proofs.lemmas.List.FromFn.{get_or-map-range_with_len, length-map-range_with_len}
use Rattle.tmr_base.specs.Parts.{PlainParts}
use Rattle.flat_net.specs.Net.{Net, Node, node_of, IsValid, pins_at}
use Rattle.flat_net.proofs.Slots.{slot_there, slot_within}
use Rattle.flat_net.proofs.Ranges.{pins_few}
use Rattle.graph.specs.Rows.{row}
use Rattle.feedback_cut.specs.Inner.{ReadsInside, inner_rows}
use Rattle.feedback_cut.specs.Cut.{is_cut, ReadsUncut, CutsLoops, OrdersUncut}
use Rattle.graph.specs.Search.{Kept}
use Rattle.graph.proofs.Places.{leads_map}
use Rattle.feedback_cut.proofs.InnerLaws.{inner_long, inner_pins, read_from, read_to}
use Rattle.feedback_cut.proofs.CutLaws.{uncut_of_kept, kept_of_uncut}
use Rattle.graph.specs.Rows.{Follows}
use Rattle.recovery_depth.specs.Walks.{IsReach, is_marked}
use Rattle.recovery_depth.specs.Private.Vertices.{HasNoLoop, IsOrdered, IsReachIn, marked}
use Rattle.recovery_depth.specs.Private.Uncut.{uncut_entry, uncut_row, uncut_rows}
use Rattle.recovery_depth.specs.Depths.{is_some_register, is_register_at, own_register}
use Rattle.recovery_depth.specs.Private.Reaching.{IsGreatestOf}
use Rattle.recovery_depth.proofs.GreatestLaws.{IsMost}
use Rattle.recovery_depth.proofs.WalkLaws.{reach_map}

module _ (rows : List (List ℕ)) (cut : List (List Bool)) where
  pub uncut_long : length (uncut_rows rows cut) ≡ length rows
  uncut_long = length-map-range_with_len (uncut_row rows cut) 0 (length rows)

  pub uncut_at : (y : ℕ) → y < length rows → row (uncut_rows rows cut) y ≡ uncut_row rows cut y
  uncut_at y l = get_or-map-range_with_len (uncut_row rows cut) 0 (length rows) y y [] l (omega arith)

  pub uncut_places : (y : ℕ) → y < length rows → length (row (uncut_rows rows cut) y) ≡ length (row rows y)
  uncut_places y l = ap length (uncut_at y l) ∙ length-map-range_with_len (uncut_entry rows cut y) 0 (length (row rows y))

  uncut_read : (y place : ℕ) → y < length rows → place < length (row rows y) → get_or (row (uncut_rows rows cut) y) place 0 ≡ uncut_entry rows cut y place
  uncut_read y place l m = ap (λ r. get_or r place 0) (uncut_at y l) ∙ get_or-map-range_with_len (uncut_entry rows cut y) 0 (length (row rows y)) place place 0 m (omega arith)

  entry_cut : (y place : ℕ) → is_cut cut y place ≡ true → uncut_entry rows cut y place ≡ length rows
  entry_cut y place e = ap (λ b. cond b (length rows) (get_or (row rows y) place 0)) e

  entry_kept : (y place : ℕ) → is_cut cut y place ≡ false → uncut_entry rows cut y place ≡ get_or (row rows y) place 0
  entry_kept y place e = ap (λ b. cond b (length rows) (get_or (row rows y) place 0)) e

  -- what a place names is what was there, uncut
  pub left_at : (y place : ℕ) → y < length rows → place < length (row rows y) → get_or (row (uncut_rows rows cut) y) place 0 < length rows → (is_cut cut y place ≡ false) × (get_or (row (uncut_rows rows cut) y) place 0 ≡ get_or (row rows y) place 0)
  left_at y place l m vertex = go (is_cut cut y place) refl
    where
      go : (b : Bool) → is_cut cut y place ≡ b → (is_cut cut y place ≡ false) × (get_or (row (uncut_rows rows cut) y) place 0 ≡ get_or (row rows y) place 0)
      go true e = absurd (omega (arith, uncut_read y place l m, entry_cut y place e, vertex))
      go false e = (e, uncut_read y place l m ∙ entry_kept y place e)

  -- and what was there uncut is there still
  pub at_left : (y place : ℕ) → y < length rows → place < length (row rows y) → is_cut cut y place ≡ false → get_or (row (uncut_rows rows cut) y) place 0 ≡ get_or (row rows y) place 0
  at_left y place l m e = uncut_read y place l m ∙ entry_kept y place e

  -- one of the vertices, where a row has something
  row_vertex : (y place : ℕ) → place < length (row rows y) → y < length rows
  row_vertex y place l = go (cases_lt y (length rows))
    where
      go : (y < length rows) ⊎ (length rows ≤ y) → y < length rows
      go (inl m) = m
      go (inr m) = absurd (let none : length (row rows y) ≡ 0 = ap length (get_or_past rows y [] m) in omega arith)

  pub kept_of_follows : ((y : ℕ) → length (row cut y) ≡ length (row rows y)) → (x y : ℕ) → Follows (uncut_rows rows cut) x y → Kept rows cut x y
  kept_of_follows shape x y f = go (cases_lt y (length rows))
    where
      go : (y < length rows) ⊎ (length rows ≤ y) → Kept rows cut x y
      go (inr m) = absurd (let none : length (row (uncut_rows rows cut) y) ≡ 0 = ap length (get_or_past (uncut_rows rows cut) y [] (omega (arith, uncut_long, m))) in omega (arith, none, f.within))
      go (inl here) = which (is_cut cut y f.place) refl
        where
          place : f.place < length (row rows y)
          place = omega (arith, uncut_places y here, f.within)

          at : uncut_entry rows cut y f.place ≡ x
          at = sym (uncut_read y f.place here place) ∙ f.is

          vertex : x < length rows
          vertex = omega (arith, uncut_long, f.vertex)

          which : (b : Bool) → is_cut cut y f.place ≡ b → Kept rows cut x y
          which true e = absurd (omega (arith, entry_cut y f.place e, at, vertex))
          which false e = record { place = f.place; within = omega (arith, shape y, place); uncut = e; is = sym (entry_kept y f.place e) ∙ at; vertex = vertex }

  pub follows_of_kept : ((y : ℕ) → length (row cut y) ≡ length (row rows y)) → (x y : ℕ) → Kept rows cut x y → Follows (uncut_rows rows cut) x y
  follows_of_kept shape x y k =
      let place : k.place < length (row rows y) = omega (arith, shape y, k.within) in
      let here : y < length rows = row_vertex y k.place place in
      record { place = k.place; within = omega (arith, uncut_places y here, place); is = uncut_read y k.place here place ∙ (entry_kept y k.place k.uncut ∙ k.is); vertex = omega (arith, uncut_long, k.vertex) }

  -- the greatest number that the uncut reads of a vertex name
  pub greatest_at : (y k g : ℕ) (labels : List ℕ) → k ≡ length (row rows y) → IsMost (λ i. get_or labels (uncut_entry rows cut y i) 0) k g → IsGreatestOf (uncut_row rows cut y) labels g
  greatest_at y k g labels all m = record { most = λ i l. most i (omega (arith, long, l)); some = some m.some }
    where
      long : length (uncut_row rows cut y) ≡ length (row rows y)
      long = length-map-range_with_len (uncut_entry rows cut y) 0 (length (row rows y))

      at : (i : ℕ) → i < length (row rows y) → get_or (uncut_row rows cut y) i 0 ≡ uncut_entry rows cut y i
      at i l = get_or-map-range_with_len (uncut_entry rows cut y) 0 (length (row rows y)) i i 0 l (omega arith)

      most : (i : ℕ) → i < length (row rows y) → get_or labels (get_or (uncut_row rows cut y) i 0) 0 ≤ g
      most i l = subst (λ (e : ℕ). get_or labels e 0 ≤ g) (sym (at i l)) (m.most i (omega (arith, all, l)))

      some : (g ≡ 0) ⊎ ((i : ℕ) × (i < k) × (get_or labels (uncut_entry rows cut y i) 0 ≡ g)) → (g ≡ 0) ⊎ ((i : ℕ) × (i < length (uncut_row rows cut y)) × (get_or labels (get_or (uncut_row rows cut y) i 0) 0 ≡ g))
      some (inl z) = inl z
      some (inr (i, l, v)) = inr (i, omega (arith, long, all, l), ap (λ (e : ℕ). get_or labels e 0) (at i (omega (arith, all, l))) ∙ v)

-- past all nodes there is no register
past : (n : Net) (x : ℕ) → length n.nodes ≤ x → is_register_at n x ≡ false
past n x l = go (node_of n (length n.inputs + x)) refl
  where
    go : (o : Option Node) → node_of n (length n.inputs + x) ≡ o → is_some_register o ≡ false
    go None e = refl
    go (Some node) e = absurd (let w = slot_within (length n.inputs) n.nodes (length n.inputs + x) node e in omega (arith, w.1, l))

module _ (n : Net) (parts : PlainParts) (cut : List (List Bool)) (valid : IsValid n) (meets : CutsLoops n parts cut) where
  pub shape : (y : ℕ) → length (row cut y) ≡ length (row (inner_rows n parts) y)
  shape y = go (cases_lt y (length n.nodes))
    where
      go : (y < length n.nodes) ⊎ (length n.nodes ≤ y) → length (row cut y) ≡ length (row (inner_rows n parts) y)
      go (inl l) = meets.pins y l ∙ sym (inner_pins n parts y l)
      go (inr l) = ap length (get_or_past cut y [] (omega (arith, meets.nodes, l))) ∙ sym (ap length (get_or_past (inner_rows n parts) y [] (omega (arith, inner_long n parts, l))))

  pub uncut_of_follows : (x y : ℕ) → Follows (uncut_rows (inner_rows n parts) cut) x y → ReadsUncut n parts cut x y
  uncut_of_follows x y f = uncut_of_kept n parts cut valid shape x y (kept_of_follows (inner_rows n parts) cut shape x y f)

  pub follows_of_uncut : (x y : ℕ) → ReadsUncut n parts cut x y → Follows (uncut_rows (inner_rows n parts) cut) x y
  follows_of_uncut x y u = follows_of_kept (inner_rows n parts) cut shape x y (kept_of_uncut n parts cut valid shape x y u)

  pub no_loop : HasNoLoop (uncut_rows (inner_rows n parts) cut)
  no_loop x y l f = meets.open_ended x y (leads_map (Follows (uncut_rows (inner_rows n parts) cut)) (ReadsUncut n parts cut) uncut_of_follows x y l) (uncut_of_follows y x f)

  pub rest_long : length (uncut_rows (inner_rows n parts) cut) ≡ length n.nodes
  rest_long = uncut_long (inner_rows n parts) cut ∙ inner_long n parts

  -- an order of the nodes by their uncut reads is one of the rows
  pub uncut_ordered : (order : List ℕ) → OrdersUncut n parts cut order → IsOrdered (uncut_rows (inner_rows n parts) cut) order
  uncut_ordered order o = record {
    within = λ k l. omega (arith, rest_long, o.within k l);
    complete = λ x l. o.complete x (omega (arith, rest_long, l));
    once = o.once;
    few = omega (arith, rest_long, o.few);
    after = λ k x l f. o.after k x l (uncut_of_follows x (get_or order k 0) f);
  }

  -- the bits of registers
  pub register_bit : (bits : List Bool) → bits ≡ map (is_register_at n) (range_with_len 0 (length n.nodes)) → (x : ℕ) → is_register_at n x ≡ is_marked bits x
  register_bit bits e x = go (cases_lt x (length n.nodes))
    where
      go : (x < length n.nodes) ⊎ (length n.nodes ≤ x) → is_register_at n x ≡ is_marked bits x
      go (inl l) = sym (ap (λ b. get_or b x false) e ∙ get_or-map-range_with_len (is_register_at n) 0 (length n.nodes) x x false l (omega arith))
      go (inr l) = past n x l ∙ sym (get_or_past bits x false (omega (arith, ap length e, length-map-range_with_len (is_register_at n) 0 (length n.nodes), l)))

  pub own_count : (bits : List Bool) → bits ≡ map (is_register_at n) (range_with_len 0 (length n.nodes)) → (x : ℕ) → length (own_register n x) ≡ length (marked bits x)
  own_count bits e x = ap (λ b. length (cond b (x ∷ []) [])) (register_bit bits e x)

  -- what a place of the rest names is read inside the partition, through an uncut pin
  pub reads_place : (y j : ℕ) → j < length (row (uncut_rows (inner_rows n parts) cut) y) → get_or (row (uncut_rows (inner_rows n parts) cut) y) j 0 < length n.nodes → (y < length n.nodes) × (is_cut cut y j ≡ false) × ReadsInside n parts y j (get_or (row (uncut_rows (inner_rows n parts) cut) y) j 0)
  reads_place y j l v = go (cases_lt y (length n.nodes))
    where
      go : (y < length n.nodes) ⊎ (length n.nodes ≤ y) → (y < length n.nodes) × (is_cut cut y j ≡ false) × ReadsInside n parts y j (get_or (row (uncut_rows (inner_rows n parts) cut) y) j 0)
      go (inr past_all) = absurd (let none : length (row (uncut_rows (inner_rows n parts) cut) y) ≡ 0 = ap length (get_or_past (uncut_rows (inner_rows n parts) cut) y [] (omega (arith, rest_long, past_all))) in omega (arith, none, l))
      go (inl here) =
          let vertex : y < length (inner_rows n parts) = omega (arith, inner_long n parts, here) in
          let place : j < length (row (inner_rows n parts) y) = omega (arith, uncut_places (inner_rows n parts) cut y vertex, l) in
          let left = left_at (inner_rows n parts) cut y j vertex place (omega (arith, inner_long n parts, v)) in
          (here, left.0, subst (ReadsInside n parts y j) (sym left.1) (read_from n parts y j place (omega (arith, left.1, inner_long n parts, v))))

  -- and what is read so stands there
  pub place_reads : (y j x : ℕ) → ReadsInside n parts y j x → is_cut cut y j ≡ false → (y < length n.nodes) × (j < length (row (uncut_rows (inner_rows n parts) cut) y)) × (get_or (row (uncut_rows (inner_rows n parts) cut) y) j 0 ≡ x) × (x < length n.nodes)
  place_reads y j x reads e =
      let r = read_to n parts valid y j x reads in
      let vertex : y < length (inner_rows n parts) = omega (arith, inner_long n parts, r.0) in
      (r.0, omega (arith, uncut_places (inner_rows n parts) cut y vertex, r.1), at_left (inner_rows n parts) cut y j vertex r.1 e ∙ r.2, omega (arith, inner_long n parts, r.3))

  pub label_reach : (bits : List Bool) → bits ≡ map (is_register_at n) (range_with_len 0 (length n.nodes)) → (x r : ℕ) → IsReachIn (uncut_rows (inner_rows n parts) cut) bits x r → IsReach (ReadsUncut n parts cut) (own_register n) x r
  label_reach bits e x r reach = reach_map (Follows (uncut_rows (inner_rows n parts) cut)) (ReadsUncut n parts cut) (marked bits) (own_register n) uncut_of_follows follows_of_uncut (own_count bits e) x r reach

-- rows are not long
pub few_places : (n : Net) (parts : PlainParts) → IsValid n → (y : ℕ) → y < length n.nodes → length (row (inner_rows n parts) y) < 4294967296
few_places n parts valid y l = go (slot_there (length n.inputs) n.nodes (length n.inputs + y) (omega arith) (omega (arith, l)))
  where
    go : (node : Node) × (node_of n (length n.inputs + y) ≡ Some node) → length (row (inner_rows n parts) y) < 4294967296
    go (node, e) = omega (arith, inner_pins n parts y l, ap (λ o. length (pins_at o)) e, pins_few n (length n.inputs + y) node valid.unordered.few_pins e)
