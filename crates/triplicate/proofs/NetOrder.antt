-- An order of a design's nets in which each table stands behind all that it reads.
use Rattle.std.proofs.Common.{◌≡◌, ℕ, ◌+◌, ◌-◌, ◌<◌, ◌≤◌, ◌⊎◌, inl, inr, List, ◌++◌, length, filter, Option, Some, None, slice_get, refl, sym, ap, ◌∙◌, subst, arith, Bool, true, false, not}
use Rattle.std.specs.Prelude.{slice_index}
use Rattle.std.specs.List.{range_with_len}
use Rattle.std.proofs.lemmas.Bool.{cases_lt, false≢true}
use Rattle.std.proofs.lemmas.List.FromFn.{length-range_with_len, get_or-range_with_len}
use Rattle.std.proofs.lemmas.Option.{slice_get-get_or, slice_get_within, get_or_from_slice_get}
use Rattle.flat_net.specs.Net.{Net, Node, Table, Register, net_count, node_of, table_pins, IsTable, IsOrder, IsValid}
use Rattle.flat_net.proofs.Slots.{slot_there, slot_below}
use Rattle.flat_net.specs.Private.ByPlace.{IsOrderByPlace}
use Rattle.flat_net.proofs.ByPlace.{by_place}
use Rattle.recovery_depth.specs.Depths.{is_some_register}
use Rattle.triplicate.specs.Construction.{is_register_net, net_order}
use Rattle.triplicate.proofs.Lists.{get_before, get_after}
use Rattle.triplicate.proofs.Orders.{kept_before, kept_at, kept_place, kept_rises}

-- ℓ lists all nets, each once, and each table behind all that it reads
pub record IsNetOrder (n : Net) (xs : List ℕ) : Type 0 where
  pub within : (a x : ℕ) → slice_get xs a ≡ Some x → x < net_count n
  pub complete : (x : ℕ) → x < net_count n → (a : ℕ) × (slice_get xs a ≡ Some x)
  pub once : (a b x : ℕ) → slice_get xs a ≡ Some x → slice_get xs b ≡ Some x → a ≡ b
  pub after : (b x i : ℕ) → slice_get xs b ≡ Some x → i < length (table_pins (node_of n x)) → (a : ℕ) × (a < b) × (slice_get xs a ≡ Some (slice_index (table_pins (node_of n x)) i))

-- where a net stands
pub data Stands (n : Net) (order : List ℕ) (x a : ℕ) : Type 0 where
  as_input : x < length n.inputs → a ≡ x → Stands n order x a
  as_register : (m : ℕ) → slice_get order m ≡ Some x → is_register_net n x ≡ true → a ≡ length n.inputs + kept_before (is_register_net n) order m → Stands n order x a
  as_table : (m : ℕ) → slice_get order m ≡ Some x → not (is_register_net n x) ≡ true → a ≡ length n.inputs + (length (filter (is_register_net n) order) + kept_before (λ x. not (is_register_net n x)) order m) → Stands n order x a

module _ (n : Net) (order : List ℕ) (valid : IsValid n) (ordered : IsOrder n order) where
  places : IsOrderByPlace n order
  places = by_place n order ordered

  nets_first : length (range_with_len 0 (length n.inputs)) ≡ length n.inputs
  nets_first = length-range_with_len 0 (length n.inputs)

  order_at : (m x : ℕ) → slice_get order m ≡ Some x → (m < length order) × (slice_index order m ≡ x)
  order_at m x h = (slice_get_within order m x h, get_or_from_slice_get order m x 0 h)

  node_listed : (x : ℕ) → length n.inputs ≤ x → x < net_count n → (m : ℕ) × (slice_get order m ≡ Some x)
  node_listed x low high = let (m, l, e) = places.complete x low high in (m, slice_get-get_or order m 0 l ∙ ap Some e)

  listed_once : (j m x : ℕ) → slice_get order j ≡ Some x → slice_get order m ≡ Some x → j ≡ m
  listed_once j m x h g = go (cases_lt j m) (cases_lt m j)
    where
      go : (j < m) ⊎ (m ≤ j) → (m < j) ⊎ (j ≤ m) → j ≡ m
      go (inl l) any = absurd (places.once j m l ((order_at m x g).0) ((order_at j x h).1 ∙ sym ((order_at m x g).1)))
      go (inr l) (inl k) = absurd (places.once m j k ((order_at j x h).0) ((order_at m x g).1 ∙ sym ((order_at j x h).1)))
      go (inr l) (inr k) = omega arith

  -- each place holds a net that stands there
  stands : (a x : ℕ) → slice_get (net_order n order) a ≡ Some x → Stands n order x a
  stands a x h = go (cases_lt a (length n.inputs))
    where
      rest : List ℕ
      rest = filter (is_register_net n) order ++ filter (λ x. not (is_register_net n x)) order

      tables : (k : ℕ) → a ≡ length n.inputs + k → slice_get (filter (is_register_net n) order ++ filter (λ x. not (is_register_net n x)) order) k ≡ Some x → (k < length (filter (is_register_net n) order)) ⊎ (length (filter (is_register_net n) order) ≤ k) → Stands n order x a
      tables k e at (inl l) =
          let r = kept_place (is_register_net n) order k x (sym (get_before (filter (is_register_net n) order) (filter (λ x. not (is_register_net n x)) order) k l) ∙ at) in
          as_register r.from r.is r.passes (e ∙ ap (λ j. length n.inputs + j) r.rank)
      tables k e at (inr l) =
          let j = k - length (filter (is_register_net n) order) in
          let shift : k ≡ length (filter (is_register_net n) order) + j = omega arith in
          let r = kept_place (λ x. not (is_register_net n x)) order j x (sym (get_after (filter (is_register_net n) order) (filter (λ x. not (is_register_net n x)) order) j) ∙ (ap (slice_get (filter (is_register_net n) order ++ filter (λ x. not (is_register_net n x)) order)) (sym shift) ∙ at)) in
          as_table r.from r.is r.passes (omega (arith, e, shift, r.rank))

      go : (a < length n.inputs) ⊎ (length n.inputs ≤ a) → Stands n order x a
      go (inl l) =
          let there : slice_get (range_with_len 0 (length n.inputs)) a ≡ Some x = sym (get_before (range_with_len 0 (length n.inputs)) (filter (is_register_net n) order ++ filter (λ x. not (is_register_net n x)) order) a (omega (arith, nets_first))) ∙ h in
          let same : x ≡ a = sym (get_or_from_slice_get (range_with_len 0 (length n.inputs)) a x 0 there) ∙ (get_or-range_with_len 0 (length n.inputs) a 0 l ∙ (omega arith)) in
          as_input (omega arith) (sym same)
      go (inr l) =
          let k = a - length n.inputs in
          let e : a ≡ length n.inputs + k = omega arith in
          let f : length (range_with_len 0 (length n.inputs)) + k ≡ a = omega (arith, nets_first) in
          let at : slice_get (filter (is_register_net n) order ++ filter (λ x. not (is_register_net n x)) order) k ≡ Some x = sym (get_after (range_with_len 0 (length n.inputs)) (filter (is_register_net n) order ++ filter (λ x. not (is_register_net n x)) order) k) ∙ (ap (slice_get (net_order n order)) f ∙ h) in
          tables k e at (cases_lt k (length (filter (is_register_net n) order)))

  -- and a net stands where it is held
  holds : (a x : ℕ) → Stands n order x a → slice_get (net_order n order) a ≡ Some x
  holds a x (as_input l e) =
      ap (slice_get (net_order n order)) e ∙ (get_before (range_with_len 0 (length n.inputs)) (filter (is_register_net n) order ++ filter (λ x. not (is_register_net n x)) order) x (omega (arith, nets_first))
      ∙ (slice_get-get_or (range_with_len 0 (length n.inputs)) x 0 (omega (arith, nets_first)) ∙ ap Some (get_or-range_with_len 0 (length n.inputs) x 0 l ∙ (omega arith))))
  holds a x (as_register m at r e) =
      let there = kept_at (is_register_net n) order m x at r in
      let within = slice_get_within (filter (is_register_net n) order) (kept_before (is_register_net n) order m) x there in
      let f : a ≡ length (range_with_len 0 (length n.inputs)) + kept_before (is_register_net n) order m = omega (arith, nets_first, e) in
      ap (slice_get (net_order n order)) f ∙ (get_after (range_with_len 0 (length n.inputs)) (filter (is_register_net n) order ++ filter (λ x. not (is_register_net n x)) order) (kept_before (is_register_net n) order m)
      ∙ (get_before (filter (is_register_net n) order) (filter (λ x. not (is_register_net n x)) order) (kept_before (is_register_net n) order m) within ∙ there))
  holds a x (as_table m at r e) =
      let there = kept_at (λ x. not (is_register_net n x)) order m x at r in
      let f : a ≡ length (range_with_len 0 (length n.inputs)) + (length (filter (is_register_net n) order) + kept_before (λ x. not (is_register_net n x)) order m) = omega (arith, nets_first, e) in
      ap (slice_get (net_order n order)) f ∙ (get_after (range_with_len 0 (length n.inputs)) (filter (is_register_net n) order ++ filter (λ x. not (is_register_net n x)) order) (length (filter (is_register_net n) order) + kept_before (λ x. not (is_register_net n x)) order m)
      ∙ (get_after (filter (is_register_net n) order) (filter (λ x. not (is_register_net n x)) order) (kept_before (λ x. not (is_register_net n x)) order m) ∙ there))

  -- a node is a register or a table
  node_stands : (x : ℕ) → length n.inputs ≤ x → x < net_count n → (a : ℕ) × Stands n order x a
  node_stands x low high = let (m, at) = node_listed x low high in go m at (is_register_net n x) refl
    where
      go : (m : ℕ) → slice_get order m ≡ Some x → (b : Bool) → is_register_net n x ≡ b → (a : ℕ) × Stands n order x a
      go m at true e = (length n.inputs + kept_before (is_register_net n) order m, as_register m at e refl)
      go m at false e = (length n.inputs + (length (filter (is_register_net n) order) + kept_before (λ x. not (is_register_net n x)) order m), as_table m at (ap not e) refl)

  listed_in_range : (m x : ℕ) → slice_get order m ≡ Some x → (length n.inputs ≤ x) × (x < net_count n)
  listed_in_range m x at =
      let (l, e) = order_at m x at in
      let (low, high) = places.nodes m l in
      (omega (arith, low, e), omega (arith, high, e))

  one_place : (a b x : ℕ) → Stands n order x a → Stands n order x b → a ≡ b
  one_place a b x (as_input l e) (as_input k f) = e ∙ sym f
  one_place a b x (as_input l e) (as_register m at r f) = absurd (omega (arith, l, (listed_in_range m x at).0))
  one_place a b x (as_input l e) (as_table m at r f) = absurd (omega (arith, l, (listed_in_range m x at).0))
  one_place a b x (as_register m at r f) (as_input l e) = absurd (omega (arith, l, (listed_in_range m x at).0))
  one_place a b x (as_register m at r f) (as_register k at' r' g) = f ∙ (ap (λ j. length n.inputs + kept_before (is_register_net n) order j) (listed_once m k x at at') ∙ sym g)
  one_place a b x (as_register m at r f) (as_table k at' r' g) = absurd (false≢true (ap not (sym r) ∙ r'))
  one_place a b x (as_table m at r f) (as_input l e) = absurd (omega (arith, l, (listed_in_range m x at).0))
  one_place a b x (as_table m at r f) (as_register k at' r' g) = absurd (false≢true (ap not (sym r') ∙ r))
  one_place a b x (as_table m at r f) (as_table k at' r' g) = f ∙ (ap (λ j. length n.inputs + (length (filter (is_register_net n) order) + kept_before (λ x. not (is_register_net n x)) order j)) (listed_once m k x at at') ∙ sym g)

  -- what a table at place m of the order reads stands before it
  reads_before : (m x i : ℕ) → slice_get order m ≡ Some x → i < length (table_pins (node_of n x)) → slice_index (table_pins (node_of n x)) i < net_count n → (a : ℕ) × (a < length n.inputs + (length (filter (is_register_net n) order) + kept_before (λ x. not (is_register_net n x)) order m)) × Stands n order (slice_index (table_pins (node_of n x)) i) a
  reads_before m x i at within high = go (cases_lt (slice_index (table_pins (node_of n x)) i) (length n.inputs))
    where
      y : ℕ
      y = slice_index (table_pins (node_of n x)) i

      node : length n.inputs ≤ slice_index (table_pins (node_of n x)) i → (k : ℕ) → slice_get order k ≡ Some (slice_index (table_pins (node_of n x)) i) → (b : Bool) → is_register_net n (slice_index (table_pins (node_of n x)) i) ≡ b → (a : ℕ) × (a < length n.inputs + (length (filter (is_register_net n) order) + kept_before (λ x. not (is_register_net n x)) order m)) × Stands n order (slice_index (table_pins (node_of n x)) i) a
      node low k at' true e =
          let inside = slice_get_within (filter (is_register_net n) order) (kept_before (is_register_net n) order k) (slice_index (table_pins (node_of n x)) i) (kept_at (is_register_net n) order k (slice_index (table_pins (node_of n x)) i) at' e) in
          (length n.inputs + kept_before (is_register_net n) order k, omega (arith, inside), as_register k at' e refl)
      node low k at' false e =
          let known = order_at m x at in
          let same : node_of n (slice_index order m) ≡ node_of n x = ap (node_of n) known.1 in
          let (j, before, is) = places.after m i known.0 (subst (λ o. i < length (table_pins o)) (sym same) within) (subst (λ o. IsTable (node_of n (slice_index (table_pins o) i))) (sym same) (table e)) in
          let there : slice_get order j ≡ Some (slice_index (table_pins (node_of n x)) i) = slice_get-get_or order j 0 (omega (arith, before, known.0)) ∙ ap Some (is ∙ ap (λ o. slice_index (table_pins o) i) same) in
          (length n.inputs + (length (filter (is_register_net n) order) + kept_before (λ x. not (is_register_net n x)) order j), omega (arith, kept_rises (λ x. not (is_register_net n x)) order j m (slice_index (table_pins (node_of n x)) i) before there (ap not e)), as_table j there (ap not e) refl)
        where
          table : is_register_net n (slice_index (table_pins (node_of n x)) i) ≡ false → IsTable (node_of n (slice_index (table_pins (node_of n x)) i))
          table f = kind (node_of n (slice_index (table_pins (node_of n x)) i)) refl
            where
              kind : (o : Option Node) → node_of n (slice_index (table_pins (node_of n x)) i) ≡ o → IsTable (node_of n (slice_index (table_pins (node_of n x)) i))
              kind None g = absurd (let (node, there) = slot_there (length n.inputs) n.nodes (slice_index (table_pins (node_of n x)) i) low high in let none : None ≡ Some node = sym g ∙ there in cc)
              kind (Some (Table name cover pins)) g = subst (λ (o : Option Node). IsTable o) (sym g) tt
              kind (Some (Register name init pin)) g = absurd (false≢true (sym f ∙ ap is_some_register g))

      go : (slice_index (table_pins (node_of n x)) i < length n.inputs) ⊎ (length n.inputs ≤ slice_index (table_pins (node_of n x)) i) → (a : ℕ) × (a < length n.inputs + (length (filter (is_register_net n) order) + kept_before (λ x. not (is_register_net n x)) order m)) × Stands n order (slice_index (table_pins (node_of n x)) i) a
      go (inl l) = (slice_index (table_pins (node_of n x)) i, omega (arith, l), as_input l refl)
      go (inr l) = let (k, at') = node_listed (slice_index (table_pins (node_of n x)) i) l high in node l k at' (is_register_net n (slice_index (table_pins (node_of n x)) i)) refl

  table_pin_in_range : (x i : ℕ) → i < length (table_pins (node_of n x)) → slice_index (table_pins (node_of n x)) i < net_count n
  table_pin_in_range x i h = go (node_of n x) refl
    where
      go : (o : Option Node) → node_of n x ≡ o → slice_index (table_pins (node_of n x)) i < net_count n
      go None e = absurd (let none : length (table_pins (node_of n x)) ≡ 0 = ap (λ (m : Option Node). length (table_pins m)) e in omega (arith, none, h))
      go (Some (Register name init pin)) e = absurd (let none : length (table_pins (node_of n x)) ≡ 0 = ap (λ (m : Option Node). length (table_pins m)) e in omega (arith, none, h))
      go (Some (Table name cover pins)) e =
          let wired = valid.unordered.wired x (Table name cover pins) e in
          let same : table_pins (node_of n x) ≡ pins = ap table_pins e in
          subst (λ (ps : List ℕ). slice_index ps i < net_count n) (sym same) (wired.0 i 0 (omega (arith, h, ap length same)))

  pub net_ordered : IsNetOrder n (net_order n order)
  net_ordered = record {
    within = λ a x h. in_range a x (stands a x h);
    complete = λ x h. placed x (cases_lt x (length n.inputs)) h;
    once = λ a b x h g. one_place a b x (stands a x h) (stands b x g);
    after = λ b x i h l. behind b x i (stands b x h) l;
  }
    where
      in_range : (a x : ℕ) → Stands n order x a → x < net_count n
      in_range a x (as_input l e) = omega (arith, l)
      in_range a x (as_register m at r e) = (listed_in_range m x at).1
      in_range a x (as_table m at r e) = (listed_in_range m x at).1

      placed : (x : ℕ) → (x < length n.inputs) ⊎ (length n.inputs ≤ x) → x < net_count n → (a : ℕ) × (slice_get (net_order n order) a ≡ Some x)
      placed x (inl l) h = (x, holds x x (as_input l refl))
      placed x (inr l) h = let (a, s) = node_stands x l h in (a, holds a x s)

      behind : (b x i : ℕ) → Stands n order x b → i < length (table_pins (node_of n x)) → (a : ℕ) × (a < b) × (slice_get (net_order n order) a ≡ Some (slice_index (table_pins (node_of n x)) i))
      behind b x i (as_input l e) h = absurd (let none : length (table_pins (node_of n x)) ≡ 0 = ap (λ (m : Option Node). length (table_pins m)) (slot_below (length n.inputs) n.nodes x l) in omega (arith, none, h))
      behind b x i (as_register m at r e) h = register (node_of n x) refl
        where
          register : (o : Option Node) → node_of n x ≡ o → (a : ℕ) × (a < b) × (slice_get (net_order n order) a ≡ Some (slice_index (table_pins (node_of n x)) i))
          register None g = absurd (let none : length (table_pins (node_of n x)) ≡ 0 = ap (λ (m : Option Node). length (table_pins m)) g in omega (arith, none, h))
          register (Some (Table name cover pins)) g = absurd (false≢true (sym (ap is_some_register g) ∙ r))
          register (Some (Register name init pin)) g = absurd (let none : length (table_pins (node_of n x)) ≡ 0 = ap (λ (m : Option Node). length (table_pins m)) g in omega (arith, none, h))
      behind b x i (as_table m at r e) h =
          let (a, before, s) = reads_before m x i at h (table_pin_in_range x i h) in
          (a, omega (arith, before, e), holds a (slice_index (table_pins (node_of n x)) i) s)
