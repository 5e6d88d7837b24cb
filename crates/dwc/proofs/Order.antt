-- The order of the guarded design is one.
use Rattle.std.proofs.Common.{◌≡◌, ◌≢◌, ℕ, zero, suc, ◌+◌, ◌-◌, ◌*◌, ◌<◌, ◌≤◌, ◌⊎◌, inl, inr, List, length, map, Option, Some, slice_get, sym, ap, ◌∙◌, subst, arith}
use Rattle.std.specs.Prelude.{slice_index}
use Rattle.std.specs.List.{flat_map, range_with_len}
use Rattle.std.proofs.lemmas.Bool.{cases_lt}
use Rattle.std.proofs.lemmas.List.{length-append, length-map, get_or-map}
use Rattle.std.proofs.lemmas.Option.{slice_get-get_or, get_or_from_slice_get, slice_get_within}
use Rattle.flat_net.specs.Net.{Net, Node, Table, Register, net_count, node_of, table_pins, IsTable, IsOrder, IsValid}
use Rattle.flat_net.proofs.Slots.{slot_there, slice_get_there}
use Rattle.flat_net.specs.Private.ByPlace.{ComesBefore, IsOrderByPlace}
use Rattle.flat_net.proofs.ByPlace.{by_place, from_places}
use Rattle.dwc.specs.Guard.{twin, twofold, node_twin, comparator, alarm, alarm_net, guard_net}
use Rattle.dwc.specs.Making.{guard_order}
use Rattle.dwc.proofs.Lists.{get_before, get_after, length-twos, twos_at, halves, same_half}
use Rattle.dwc.proofs.Nodes
use Rattle.dwc.proofs.Valid.{length-range, range_at, output_below}

module _ (n : Net) (valid : IsValid n) (order : List ℕ) (ordered : IsOrder n order) where
  places : IsOrderByPlace n order
  places = by_place n order ordered

  length-order : length (guard_order n order) ≡ 2 * length order + (length n.outputs + 1)
  length-order = omega (arith, length-append (flat_map (λ x. twofold (λ c. twin c x)) order) (range_with_len (2 * net_count n) (length n.outputs + 1)), length-twos (λ x c. twin c x) order, length-range (2 * net_count n) (length n.outputs + 1))

  order_twin : (i c x : ℕ) → slice_get order i ≡ Some x → c < 2 → slice_get (guard_order n order) (2 * i + c) ≡ Some (twin c x)
  order_twin i c x h l =
      let at = twos_at (λ x c. twin c x) order i x c h l in
      get_before (flat_map (λ x. twofold (λ c. twin c x)) order) (range_with_len (2 * net_count n) (length n.outputs + 1)) (2 * i + c) (slice_get_within (flat_map (λ x. twofold (λ c. twin c x)) order) (2 * i + c) (twin c x) at) ∙ at

  order_behind : (j : ℕ) → j < length n.outputs + 1 → slice_get (guard_order n order) (2 * length order + j) ≡ Some (2 * net_count n + j)
  order_behind j h =
      let e : 2 * length order + j ≡ length (flat_map (λ x. twofold (λ c. twin c x)) order) + j = omega (arith, length-twos (λ x c. twin c x) order) in
      ap (slice_get (guard_order n order)) e ∙ (get_after (flat_map (λ x. twofold (λ c. twin c x)) order) (range_with_len (2 * net_count n) (length n.outputs + 1)) j
      ∙ (slice_get-get_or (range_with_len (2 * net_count n) (length n.outputs + 1)) j 0 (omega (arith, h, length-range (2 * net_count n) (length n.outputs + 1))) ∙ ap Some (range_at (2 * net_count n) (length n.outputs + 1) j 0 h)))

  record TwinAt (k : ℕ) : Type 0 where
    pub place : ℕ
    pub net : ℕ
    pub copy : ℕ
    pub listed : slice_get order place ≡ Some net
    pub low : length n.inputs ≤ net
    pub high : net < net_count n
    pub few : copy < 2
    pub at : k ≡ 2 * place + copy
    pub is : slice_index (guard_order n order) k ≡ twin copy net

  record BehindAt (k : ℕ) : Type 0 where
    pub place : ℕ
    pub below : place < length n.outputs + 1
    pub at : k ≡ 2 * length order + place
    pub is : slice_index (guard_order n order) k ≡ 2 * net_count n + place

  order_at : (k : ℕ) → k < length (guard_order n order) → TwinAt k ⊎ BehindAt k
  order_at k h = go (cases_lt k (2 * length order))
    where
      go : (k < 2 * length order) ⊎ (2 * length order ≤ k) → TwinAt k ⊎ BehindAt k
      go (inl l) =
          let p = halves k in
          let within : p.half < length order = omega (arith, l, p.is) in
          let (x, there) = slice_get_there order p.half within in
          let range = places.nodes p.half within in
          let own = get_or_from_slice_get order p.half x 0 there in
          inl (record {
            place = p.half;
            net = x;
            copy = p.copy;
            listed = there;
            low = omega (arith, range.0, own);
            high = omega (arith, range.1, own);
            few = p.few;
            at = p.is;
            is = get_or_from_slice_get (guard_order n order) k (twin p.copy x) 0 (ap (slice_get (guard_order n order)) p.is ∙ order_twin p.half p.copy x there p.few);
          })
      go (inr l) =
          let j = k - 2 * length order in
          let e : k ≡ 2 * length order + j = omega (arith, l) in
          let below : j < length n.outputs + 1 = omega (arith, h, l, length-order) in
          inr (record { place = j; below = below; at = e; is = get_or_from_slice_get (guard_order n order) k (2 * net_count n + j) 0 (ap (slice_get (guard_order n order)) e ∙ order_behind j below) })

  nodes : (k : ℕ) → k < length (guard_order n order) → (length (guard_net n).inputs ≤ slice_index (guard_order n order) k) × (slice_index (guard_order n order) k < net_count (guard_net n))
  nodes k h = go (order_at k h)
    where
      go : TwinAt k ⊎ BehindAt k → (length (guard_net n).inputs ≤ slice_index (guard_order n order) k) × (slice_index (guard_order n order) k < net_count (guard_net n))
      go (inl a) = (omega (arith, a.is, a.low, Nodes.length-inputs n), omega (arith, a.is, a.high, a.few, Nodes.length-guarded n))
      go (inr a) = (omega (arith, a.is, Nodes.length-inputs n), omega (arith, a.is, a.below, Nodes.length-guarded n))

  -- where a node's copy stands
  place_of : (x : ℕ) → length n.inputs ≤ x → x < net_count n → (i : ℕ) × (i < length order) × (slice_get order i ≡ Some x)
  place_of x low high =
      let (i, l, e) = places.complete x low high in
      (i, l, slice_get-get_or order i 0 l ∙ ap Some e)

  complete : (x : ℕ) → length (guard_net n).inputs ≤ x → x < net_count (guard_net n) → (k : ℕ) × (k < length (guard_order n order)) × (slice_index (guard_order n order) k ≡ x)
  complete x low high = go (Nodes.stands_for n x high)
    where
      behind : (j : ℕ) → j < length n.outputs + 1 → x ≡ 2 * net_count n + j → (k : ℕ) × (k < length (guard_order n order)) × (slice_index (guard_order n order) k ≡ x)
      behind j l e = (2 * length order + j, omega (arith, l, length-order), get_or_from_slice_get (guard_order n order) (2 * length order + j) (2 * net_count n + j) 0 (order_behind j l) ∙ sym e)

      go : Nodes.IsTwin n x ⊎ (Nodes.IsComparator n x ⊎ (x ≡ alarm_net n)) → (k : ℕ) × (k < length (guard_order n order)) × (slice_index (guard_order n order) k ≡ x)
      go (inl a) =
          let (i, l, there) = place_of a.net (omega (arith, low, a.is, a.few, Nodes.length-inputs n)) a.below in
          (2 * i + a.copy, omega (arith, l, a.few, length-order), get_or_from_slice_get (guard_order n order) (2 * i + a.copy) (twin a.copy a.net) 0 (order_twin i a.copy a.net there a.few) ∙ sym a.is)
      go (inr (inl a)) = behind a.place (omega (arith, slice_get_within n.outputs a.place a.net a.listed)) a.is
      go (inr (inr e)) = behind (length n.outputs) (omega arith) e

  -- a node is listed once
  listed_once : (j k x : ℕ) → slice_get order j ≡ Some x → slice_get order k ≡ Some x → j ≡ k
  listed_once j k x a b = go (cases_lt j k) (cases_lt k j)
    where
      go : (j < k) ⊎ (k ≤ j) → (k < j) ⊎ (j ≤ k) → j ≡ k
      go (inl l) any = absurd (places.once j k l (slice_get_within order k x b) (get_or_from_slice_get order j x 0 a ∙ sym (get_or_from_slice_get order k x 0 b)))
      go (inr l) (inl m) = absurd (places.once k j m (slice_get_within order j x a) (get_or_from_slice_get order k x 0 b ∙ sym (get_or_from_slice_get order j x 0 a)))
      go (inr l) (inr m) = omega (arith, l, m)

  once : (j k : ℕ) → j < k → k < length (guard_order n order) → slice_index (guard_order n order) j ≢ slice_index (guard_order n order) k
  once j k less h e = go (order_at j (omega (arith, less, h))) (order_at k h)
    where
      go : TwinAt j ⊎ BehindAt j → TwinAt k ⊎ BehindAt k → ⊥
      go (inl a) (inl b) =
          let same = same_half a.net b.net a.copy b.copy a.few b.few (sym a.is ∙ (e ∙ b.is)) in
          let net : a.net ≡ b.net = same.0 in
          let copy : a.copy ≡ b.copy = same.1 in
          let place : a.place ≡ b.place = listed_once a.place b.place b.net (a.listed ∙ ap Some net) b.listed in
          omega (arith, less, a.at, b.at, copy, place)
      go (inl a) (inr b) = omega (arith, e, a.is, b.is, a.high, a.few)
      go (inr a) (inl b) = omega (arith, e, a.is, b.is, b.high, b.few)
      go (inr a) (inr b) = omega (arith, e, a.is, b.is, a.at, b.at, less)

  abbrev Before : ℕ → List ℕ → ℕ → Type 0
  Before k pins i = i < length pins → IsTable (node_of (guard_net n) (slice_index pins i)) → (j : ℕ) × (j < k) × (slice_index (guard_order n order) j ≡ slice_index pins i)

  -- a copy of a table of the original is a table
  was_table : (x c : ℕ) → x < net_count n → c < 2 → IsTable (node_of (guard_net n) (twin c x)) → (length n.inputs ≤ x) × IsTable (node_of n x)
  was_table x c high l is_table = go (cases_lt x (length n.inputs))
    where
      table : (node : Node) → IsTable (Some (node_twin node c)) → IsTable (Some node)
      table (Table name cover pins) t = tt
      table (Register name init pin) t = t

      go : (x < length n.inputs) ⊎ (length n.inputs ≤ x) → (length n.inputs ≤ x) × IsTable (node_of n x)
      go (inl low) = absurd (subst (λ (o : Option Node). IsTable o) (Nodes.twin_of_input n x c low l) is_table)
      go (inr low) =
          let (node, at) = slot_there (length n.inputs) n.nodes x low high in
          (low, subst (λ (o : Option Node). IsTable o) (sym at) (table node (subst (λ (o : Option Node). IsTable o) (Nodes.twin_of_node n x c node at l) is_table)))

  twin_after : (k i : ℕ) (a : TwinAt k) (node : Node) → node_of n a.net ≡ Some node → Before k (table_pins (Some (node_twin node a.copy))) i
  twin_after k i a (Register name init pin) at l t = absurd (omega (arith, l))
  twin_after k i a (Table name cover pins) at l t =
      let l' : i < length pins = omega (arith, l, length-map pins (twin a.copy)) in
      let here : slice_index (map (twin a.copy) pins) i ≡ twin a.copy (slice_index pins i) = get_or-map (twin a.copy) pins i 0 0 l' in
      let range : slice_index pins i < net_count n = (valid.unordered.wired a.net (Table name cover pins) at).0 i 0 l' in
      let was = was_table (slice_index pins i) a.copy range a.few (subst (λ x. IsTable (node_of (guard_net n) x)) here t) in
      let own : table_pins (node_of n (slice_index order a.place)) ≡ pins = ap (λ x. table_pins (node_of n x)) (get_or_from_slice_get order a.place a.net 0 a.listed) ∙ ap table_pins at in
      let before : i < length pins → IsTable (node_of n (slice_index pins i)) → (j : ℕ) × (j < a.place) × (slice_index order j ≡ slice_index pins i) =
      subst (λ (ps : List ℕ). i < length ps → IsTable (node_of n (slice_index ps i)) → (j : ℕ) × (j < a.place) × (slice_index order j ≡ slice_index ps i)) own (places.after a.place i (slice_get_within order a.place a.net a.listed)) in
      let (j, less, e) = before l' was.1 in
      let there : slice_get order j ≡ Some (slice_index pins i) = slice_get-get_or order j 0 (omega (arith, less, slice_get_within order a.place a.net a.listed)) ∙ ap Some e in
      (2 * j + a.copy, omega (arith, less, a.at), get_or_from_slice_get (guard_order n order) (2 * j + a.copy) (twin a.copy (slice_index pins i)) 0 (order_twin j a.copy (slice_index pins i) there a.few) ∙ sym here)

  comparator_after : (k i y : ℕ) → 2 * length order ≤ k → y < net_count n → Before k (twofold (λ c. twin c y)) i
  comparator_after k i y far high = go i
    where
      copy : (c : ℕ) → c < 2 → IsTable (node_of (guard_net n) (twin c y)) → (j : ℕ) × (j < k) × (slice_index (guard_order n order) j ≡ twin c y)
      copy c few t =
          let was = was_table y c high few t in
          let (i, l, there) = place_of y was.0 high in
          (2 * i + c, omega (arith, l, few, far), get_or_from_slice_get (guard_order n order) (2 * i + c) (twin c y) 0 (order_twin i c y there few))

      go : (i : ℕ) → Before k (twofold (λ c. twin c y)) i
      go zero l t = copy 0 (omega arith) t
      go (suc zero) l t = copy 1 (omega arith) t
      go (suc (suc i)) l t = absurd (omega (arith, l))

  alarm_after : (i : ℕ) → Before (2 * length order + length n.outputs) (range_with_len (2 * net_count n) (length n.outputs)) i
  alarm_after i l t =
      let l' : i < length n.outputs = omega (arith, l, length-range (2 * net_count n) (length n.outputs)) in
      (2 * length order + i, omega (arith, l'), get_or_from_slice_get (guard_order n order) (2 * length order + i) (2 * net_count n + i) 0 (order_behind i (omega (arith, l'))) ∙ sym (range_at (2 * net_count n) (length n.outputs) i 0 l'))

  after : (k i : ℕ) → k < length (guard_order n order) → ComesBefore (guard_net n) (guard_order n order) k i
  after k i h = go (order_at k h)
    where
      -- what the net at k reads
      reads : (x : ℕ) (node : Node) → slice_index (guard_order n order) k ≡ x → node_of (guard_net n) x ≡ Some node → Before k (table_pins (Some node)) i → ComesBefore (guard_net n) (guard_order n order) k i
      reads x node e at before = subst (λ (ps : List ℕ). Before k ps i) (sym (ap (λ y. table_pins (node_of (guard_net n) y)) e ∙ ap table_pins at)) before

      behind : (a : BehindAt k) → (a.place < length n.outputs) ⊎ (length n.outputs ≤ a.place) → ComesBefore (guard_net n) (guard_order n order) k i
      behind a (inl l) =
          let (y, listed) = slice_get_there n.outputs a.place l in
          reads (2 * net_count n + a.place) (comparator n y) a.is (Nodes.comparator_of n a.place y listed) (comparator_after k i y (omega (arith, a.at)) (output_below n valid a.place y listed))
      behind a (inr l) =
          let last : a.place ≡ length n.outputs = omega (arith, l, a.below) in
          let far : k ≡ 2 * length order + length n.outputs = omega (arith, a.at, last) in
          reads (alarm_net n) (alarm n) (a.is ∙ ap (λ j. 2 * net_count n + j) last) (Nodes.alarm_of n) (subst (λ m. Before m (range_with_len (2 * net_count n) (length n.outputs)) i) (sym far) (alarm_after i))

      go : TwinAt k ⊎ BehindAt k → ComesBefore (guard_net n) (guard_order n order) k i
      go (inl a) =
          let (node, at) = slot_there (length n.inputs) n.nodes a.net a.low a.high in
          reads (twin a.copy a.net) (node_twin node a.copy) a.is (Nodes.twin_of_node n a.net a.copy node at a.few) (twin_after k i a node at)
      go (inr a) = behind a (cases_lt a.place (length n.outputs))

  pub is_order : IsOrder (guard_net n) (guard_order n order)
  is_order = from_places (guard_net n) (guard_order n order) (record {
    nodes = nodes;
    complete = complete;
    once = once;
    after = after;
  })
