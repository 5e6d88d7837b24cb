-- The guarded design is valid.
use Rattle.std.proofs.Common.{◌≡◌, ◌≢◌, ℕ, zero, suc, ◌+◌, ◌*◌, ◌<◌, ◌≤◌, ◌⊎◌, inl, inr, List, [], ◌∷◌, ◌++◌, length, map, Option, Some, None, slice_get, get_or, refl, sym, ap, ◌∙◌, subst, arith, Bool, true, All, replicate, if◌then◌else◌}
use Rattle.std.specs.Prelude.{slice_index, count_by, sum_by, codes, Contains}
use Rattle.std.specs.List.{flat_map, range_with_len, list_all}
use Rattle.std.specs.Option.{option_map}
use Rattle.std.proofs.lemmas.Bool.{cases_lt}
use Rattle.std.proofs.lemmas.List.{length-map, length-append, length-replicate, get_or_default, get_or-map}
use Rattle.std.proofs.lemmas.List.Sums.{sum_by-append, sum_by-cons}
use Rattle.std.proofs.lemmas.Option.{slice_get_within, get_or_from_slice_get}
use Rattle.limits.specs.Most.{widest_nets}
use Rattle.tmr_base.specs.declared.ids.Edge.{Edge}
use Rattle.tmr_base.specs.Names.{is_name, clock_text}
use Rattle.table_cover.specs.Cover.{IsCover, IsRow, is_mark}
use Rattle.flat_net.specs.Net.{Net, Node, Table, Register, net_count, pin_total, node_of, node_name, net_names, name_of, pins_of, is_register, register_count, IsWired, IsClockOf, IsOrder, IsValid}
use Rattle.flat_net.proofs.Slots.{slot_within, slot_there, slice_get_there}
use Rattle.dwc.specs.Guard.{twin, twofold, node_twin, differ_cover, any_cover, comparator, alarm, alarm_net, guard_net}
use Rattle.dwc.proofs.Lists.{get_before, get_after, length-twos, twos_at, halves, same_half}
use Rattle.dwc.proofs.Texts.{tailed, tails_alike, tailed_is_name, twin_is_name, clock_tailed, clock_is_not_nil, clock_is_name}
use Rattle.dwc.proofs.Few.{outputs_few}
use Rattle.dwc.proofs.Nodes

-- ---- covers

differ_is_cover : IsCover differ_cover
differ_is_cover = record {
  rows = rows;
  few = omega arith;
  empty_is_on = λ e. refl;
}
  where
    rows : All (IsRow 2) (differ_cover.rows)
    rows zero d h = (refl, refl)
    rows (suc zero) d h = (refl, refl)
    rows (suc (suc k)) d h = absurd (omega arith)

marks_zero : (k : ℕ) → list_all is_mark (replicate k 48) ≡ true
marks_zero zero = refl
marks_zero (suc k) = marks_zero k

any_is_cover : (count : ℕ) → IsCover (any_cover count)
any_is_cover zero = record { rows = λ k d h. absurd (omega arith); few = omega arith; empty_is_on = λ e. refl }
any_is_cover (suc count) = record {
  rows = rows;
  few = omega arith;
  empty_is_on = λ e. absurd (cc);
}
  where
    rows : All (IsRow (suc count)) (replicate (suc count) 48 ∷ [])
    rows zero d h = (length-replicate (suc count) 48, marks_zero (suc count))
    rows (suc k) d h = absurd (omega arith)

-- ---- counts

twin_pins_count : (nodes : List Node) → sum_by (λ node. length (pins_of node)) (flat_map (λ node. twofold (node_twin node)) nodes) ≡ 2 * sum_by (λ node. length (pins_of node)) nodes
twin_pins_count [] = refl
twin_pins_count (node ∷ nodes) = omega (arith, same 0, same 1, twin_pins_count nodes, sum_by-cons (λ node. length (pins_of node)) node nodes, sum_by-cons (λ node. length (pins_of node)) (node_twin node 0) (node_twin node 1 ∷ flat_map (λ node. twofold (node_twin node)) nodes), sum_by-cons (λ node. length (pins_of node)) (node_twin node 1) (flat_map (λ node. twofold (node_twin node)) nodes))
  where
    long : (node : Node) (c : ℕ) → length (pins_of (node_twin node c)) ≡ length (pins_of node)
    long (Table name cover pins) c = length-map pins (twin c)
    long (Register name init pin) c = refl

    same : (c : ℕ) → length (pins_of (node_twin node c)) ≡ length (pins_of node)
    same c = long node c

comparator_pins_count : (n : Net) (ys : List ℕ) → sum_by (λ node. length (pins_of node)) (map (comparator n) ys) ≡ 2 * length ys
comparator_pins_count n [] = refl
comparator_pins_count n (y ∷ ys) = omega (arith, comparator_pins_count n ys, sum_by-cons (λ node. length (pins_of node)) (comparator n y) (map (comparator n) ys))

pub length-range : (a k : ℕ) → length (range_with_len a k) ≡ k
length-range a zero = refl
length-range a (suc k) = ap suc (length-range (a + 1) k)

pub range_at : (a k i d : ℕ) → i < k → get_or (range_with_len a k) i d ≡ a + i
range_at a zero i d h = absurd (omega arith)
range_at a (suc k) zero d h = omega arith
range_at a (suc k) (suc i) d h = range_at (a + 1) k i d (omega arith) ∙ (omega arith)

pub guard_pins : (n : Net) → pin_total (guard_net n) ≡ 2 * pin_total n + 3 * length n.outputs
unfolding guard_net
guard_pins n =
    let f : Node → ℕ = λ node. length (pins_of node) in
    omega (arith, sum_by-append f (flat_map (λ node. twofold (node_twin node)) n.nodes) (map (comparator n) n.outputs ++ alarm n ∷ []), sum_by-append f (map (comparator n) n.outputs) (alarm n ∷ []), sum_by-cons f (alarm n) [], twin_pins_count n.nodes, comparator_pins_count n n.outputs, length-range (2 * net_count n) (length n.outputs))

abbrev one_if : Bool → ℕ
one_if b = if b then 1 else 0

twin_registers : (nodes : List Node) → count_by is_register (flat_map (λ node. twofold (node_twin node)) nodes) ≡ 2 * count_by is_register nodes
twin_registers [] = refl
twin_registers (node ∷ nodes) = omega (arith, same 0, same 1, twin_registers nodes, sum_by-cons (λ node. one_if (is_register node)) node nodes, sum_by-cons (λ node. one_if (is_register node)) (node_twin node 0) (node_twin node 1 ∷ flat_map (λ node. twofold (node_twin node)) nodes), sum_by-cons (λ node. one_if (is_register node)) (node_twin node 1) (flat_map (λ node. twofold (node_twin node)) nodes))
  where
    kind : (node : Node) (c : ℕ) → is_register (node_twin node c) ≡ is_register node
    kind (Table name cover pins) c = refl
    kind (Register name init pin) c = refl

    same : (c : ℕ) → one_if (is_register (node_twin node c)) ≡ one_if (is_register node)
    same c = ap one_if (kind node c)

more_registers : (n : Net) → register_count n ≤ register_count (guard_net n)
unfolding guard_net
more_registers n = omega (arith, sum_by-append (λ node. one_if (is_register node)) (flat_map (λ node. twofold (node_twin node)) n.nodes) (map (comparator n) n.outputs ++ alarm n ∷ []), twin_registers n.nodes)

some_is : {A : Type 0} (a b : A) → Some a ≡ Some b → a ≡ b
some_is a b e = cc

none_is_some : {A : Type 0} (a : A) → ◌≡◌ {A = Option A} None (Some a) → ⊥
none_is_some a e = cc

pub clock_same : (n : Net) → (guard_net n).clock ≡ option_map (λ c. (c.0, clock_text c.1)) n.clock
unfolding guard_net
clock_same n = refl

pub model_same : (n : Net) → (guard_net n).model ≡ n.model
unfolding guard_net
model_same n = refl

module _ (n : Net) (valid : IsValid n) where
  pub output_below : (k y : ℕ) → slice_get n.outputs k ≡ Some y → y < net_count n
  output_below k y h = subst (λ z. z < net_count n) (get_or_from_slice_get n.outputs k y 0 h) (valid.unordered.outputs_in_range k 0 (slice_get_within n.outputs k y h))

  -- ---- wires

  pub twin_below : (x c : ℕ) → x < net_count n → c < 2 → twin c x < net_count (guard_net n)
  twin_below x c h l = omega (arith, h, l, Nodes.length-guarded n)

  pins_below : (c : ℕ) (pins : List ℕ) → c < 2 → All (λ x. x < net_count n) pins → All (λ x. x < net_count (guard_net n)) (map (twin c) pins)
  pins_below c pins l all k d h =
      let h' : k < length pins = omega (arith, h, length-map pins (twin c)) in
      rw (get_or-map (twin c) pins k 0 d h') (twin_below (get_or pins k 0) c (all k 0 h') l)

  twin_wired : (node : Node) (c : ℕ) → c < 2 → IsWired (net_count n) node → IsWired (net_count (guard_net n)) (node_twin node c)
  twin_wired (Table name cover pins) c l is = (pins_below c pins l is.0, length-map pins (twin c) ∙ is.1, is.2)
  twin_wired (Register name init pin) c l is = twin_below pin c is l

  comparator_wired : (y : ℕ) → y < net_count n → IsWired (net_count (guard_net n)) (comparator n y)
  comparator_wired y h = (below, refl, differ_is_cover)
    where
      below : All (λ g. g < net_count (guard_net n)) (twofold (λ c. twin c y))
      below zero d l = twin_below y 0 h (omega arith)
      below (suc zero) d l = twin_below y 1 h (omega arith)
      below (suc (suc k)) d l = absurd (omega arith)

  alarm_wide : (k : ℕ) → (any_cover k).width ≡ k
  alarm_wide zero = refl
  alarm_wide (suc k) = refl

  alarm_wired : IsWired (net_count (guard_net n)) (alarm n)
  alarm_wired = (below, length-range (2 * net_count n) (length n.outputs) ∙ sym (alarm_wide (length n.outputs)), any_is_cover (length n.outputs))
    where
      below : All (λ g. g < net_count (guard_net n)) (range_with_len (2 * net_count n) (length n.outputs))
      below k d h =
          let h' : k < length n.outputs = omega (arith, h, length-range (2 * net_count n) (length n.outputs)) in
          rw (range_at (2 * net_count n) (length n.outputs) k d h') (omega (arith, h', Nodes.length-guarded n))

  wired : (g : ℕ) (node : Node) → node_of (guard_net n) g ≡ Some node → IsWired (net_count (guard_net n)) node
  wired g node at = go (Nodes.stands_for n g (slot_within (length (guard_net n).inputs) (guard_net n).nodes g node at).1)
    where
      own : (m : Node) → node_of (guard_net n) g ≡ Some m → IsWired (net_count (guard_net n)) m → IsWired (net_count (guard_net n)) node
      own m e is = subst (λ (o : Node). IsWired (net_count (guard_net n)) o) (some_is m node (sym e ∙ at)) is

      by_kind : (a : Nodes.IsTwin n g) → (a.net < length n.inputs) ⊎ (length n.inputs ≤ a.net) → IsWired (net_count (guard_net n)) node
      by_kind a (inl l) = absurd (none_is_some node (sym (Nodes.twin_of_input n a.net a.copy l a.few) ∙ (sym (ap (node_of (guard_net n)) a.is) ∙ at)))
      by_kind a (inr l) =
          let (m, there) = slot_there (length n.inputs) n.nodes a.net l a.below in
          own (node_twin m a.copy) (ap (node_of (guard_net n)) a.is ∙ Nodes.twin_of_node n a.net a.copy m there a.few) (twin_wired m a.copy a.few (valid.unordered.wired a.net m there))

      go : Nodes.IsTwin n g ⊎ (Nodes.IsComparator n g ⊎ (g ≡ alarm_net n)) → IsWired (net_count (guard_net n)) node
      go (inl a) = by_kind a (cases_lt a.net (length n.inputs))
      go (inr (inl a)) = own (comparator n a.net) (ap (node_of (guard_net n)) a.is ∙ Nodes.comparator_of n a.place a.net a.listed) (comparator_wired a.net (output_below a.place a.net a.listed))
      go (inr (inr e)) = own (alarm n) (ap (node_of (guard_net n)) e ∙ Nodes.alarm_of n) alarm_wired

  -- ---- names

  pub names_are_names : (g : ℕ) → g < net_count (guard_net n) → is_name (name_of (guard_net n) g) ≡ true
  names_are_names g h = go (Nodes.stands_for n g h)
    where
      go : Nodes.IsTwin n g ⊎ (Nodes.IsComparator n g ⊎ (g ≡ alarm_net n)) → is_name (name_of (guard_net n) g) ≡ true
      go (inl a) = ap (λ x. is_name (name_of (guard_net n) x)) a.is ∙ (ap is_name (Nodes.twin_name n a.net a.copy a.below a.few) ∙ twin_is_name (name_of n a.net) a.copy a.few (valid.unordered.names_are_names a.net a.below))
      go (inr (inl a)) = ap (λ x. is_name (name_of (guard_net n) x)) a.is ∙ (ap is_name (Nodes.comparator_name n a.place a.net a.listed) ∙ tailed_is_name (name_of n a.net) 101 (valid.unordered.names_are_names a.net (output_below a.place a.net a.listed)) refl)
      go (inr (inr e)) = ap (λ x. is_name (name_of (guard_net n) x)) e ∙ (ap is_name (Nodes.alarm_name n) ∙ tailed_is_name (codes "alarm") 122 refl refl)

  -- an output is listed once
  once : (j k y : ℕ) → slice_get n.outputs j ≡ Some y → slice_get n.outputs k ≡ Some y → j ≡ k
  once j k y a b = go (cases_lt j k) (cases_lt k j)
    where
      go : (j < k) ⊎ (k ≤ j) → (k < j) ⊎ (j ≤ k) → j ≡ k
      go (inl l) any = absurd (valid.unordered.outputs_differ j k l (slice_get_within n.outputs k y b) (get_or_from_slice_get n.outputs j y 0 a ∙ sym (get_or_from_slice_get n.outputs k y 0 b)))
      go (inr l) (inl m) = absurd (valid.unordered.outputs_differ k j m (slice_get_within n.outputs j y a) (get_or_from_slice_get n.outputs k y 0 b ∙ sym (get_or_from_slice_get n.outputs j y 0 a)))
      go (inr l) (inr m) = omega (arith, l, m)

  -- a net by what its name ends in
  record EndsIn (g : ℕ) : Type 0 where
    pub front : List ℕ
    pub byte : ℕ
    pub is : name_of (guard_net n) g ≡ tailed front byte
    pub kind : ((a : Nodes.IsTwin n g) × (front ≡ name_of n a.net) × (byte ≡ 48 + a.copy)) ⊎ (((a : Nodes.IsComparator n g) × (front ≡ name_of n a.net) × (byte ≡ 101)) ⊎ ((g ≡ alarm_net n) × (byte ≡ 122)))

  ends_in : (g : ℕ) → g < net_count (guard_net n) → EndsIn g
  ends_in g h = go (Nodes.stands_for n g h)
    where
      go : Nodes.IsTwin n g ⊎ (Nodes.IsComparator n g ⊎ (g ≡ alarm_net n)) → EndsIn g
      go (inl a) = record { front = name_of n a.net; byte = 48 + a.copy; is = ap (name_of (guard_net n)) a.is ∙ Nodes.twin_name n a.net a.copy a.below a.few; kind = inl (a, refl, refl) }
      go (inr (inl a)) = record { front = name_of n a.net; byte = 101; is = ap (name_of (guard_net n)) a.is ∙ Nodes.comparator_name n a.place a.net a.listed; kind = inr (inl (a, refl, refl)) }
      go (inr (inr e)) = record { front = codes "alarm"; byte = 122; is = ap (name_of (guard_net n)) e ∙ Nodes.alarm_name n; kind = inr (inr (e, refl)) }

  pub names_differ : (g h : ℕ) → g < net_count (guard_net n) → h < net_count (guard_net n) → name_of (guard_net n) g ≡ name_of (guard_net n) h → g ≡ h
  names_differ g h l m e =
      let a = ends_in g l in
      let b = ends_in h m in
      let same = tails_alike a.front b.front a.byte b.byte (sym a.is ∙ (e ∙ b.is)) in
      go a.front b.front a.byte b.byte same.0 same.1 a.kind b.kind
    where
      go : (p q : List ℕ) (u v : ℕ) → p ≡ q → u ≡ v → ((a : Nodes.IsTwin n g) × (p ≡ name_of n a.net) × (u ≡ 48 + a.copy)) ⊎ (((a : Nodes.IsComparator n g) × (p ≡ name_of n a.net) × (u ≡ 101)) ⊎ ((g ≡ alarm_net n) × (u ≡ 122)))
          → ((b : Nodes.IsTwin n h) × (q ≡ name_of n b.net) × (v ≡ 48 + b.copy)) ⊎ (((b : Nodes.IsComparator n h) × (q ≡ name_of n b.net) × (v ≡ 101)) ⊎ ((h ≡ alarm_net n) × (v ≡ 122))) → g ≡ h
      go p q u v f t (inl (a, x, i)) (inl (b, y, j)) =
          let net : a.net ≡ b.net = valid.unordered.names_differ a.net b.net a.below b.below (sym x ∙ (f ∙ y)) in
          omega (arith, a.is, b.is, net, i, j, t)
      go p q u v f t (inl (a, x, i)) (inr (inl (b, y, j))) = absurd (omega (arith, i, j, t, a.few))
      go p q u v f t (inl (a, x, i)) (inr (inr (y, j))) = absurd (omega (arith, i, j, t, a.few))
      go p q u v f t (inr (inl (a, x, i))) (inl (b, y, j)) = absurd (omega (arith, i, j, t, b.few))
      go p q u v f t (inr (inl (a, x, i))) (inr (inl (b, y, j))) =
          let net : a.net ≡ b.net = valid.unordered.names_differ a.net b.net (output_below a.place a.net a.listed) (output_below b.place b.net b.listed) (sym x ∙ (f ∙ y)) in
          let place : a.place ≡ b.place = once a.place b.place b.net (a.listed ∙ ap Some net) b.listed in
          omega (arith, a.is, b.is, place)
      go p q u v f t (inr (inl (a, x, i))) (inr (inr (y, j))) = absurd (omega (arith, i, j, t))
      go p q u v f t (inr (inr (x, i))) (inl (b, y, j)) = absurd (omega (arith, i, j, t, b.few))
      go p q u v f t (inr (inr (x, i))) (inr (inl (b, y, j))) = absurd (omega (arith, i, j, t))
      go p q u v f t (inr (inr (x, i))) (inr (inr (y, j))) = x ∙ sym y

  -- ---- outputs

  pub length-outputs : length (guard_net n).outputs ≡ 2 * length n.outputs + 1
  unfolding guard_net
  length-outputs = omega (arith, length-append (flat_map (λ y. twofold (λ c. twin c y)) n.outputs) (alarm_net n ∷ []), length-twos (λ y c. twin c y) n.outputs)

  pub output_twin : (k c y : ℕ) → slice_get n.outputs k ≡ Some y → c < 2 → slice_get (guard_net n).outputs (2 * k + c) ≡ Some (twin c y)
  unfolding guard_net
  output_twin k c y h l =
      let at = twos_at (λ y c. twin c y) n.outputs k y c h l in
      get_before (flat_map (λ y. twofold (λ c. twin c y)) n.outputs) (alarm_net n ∷ []) (2 * k + c) (slice_get_within (flat_map (λ y. twofold (λ c. twin c y)) n.outputs) (2 * k + c) (twin c y) at) ∙ at

  pub output_alarm : slice_get (guard_net n).outputs (2 * length n.outputs) ≡ Some (alarm_net n)
  unfolding guard_net
  output_alarm =
      let e : 2 * length n.outputs ≡ length (flat_map (λ y. twofold (λ c. twin c y)) n.outputs) + 0 = omega (arith, length-twos (λ y c. twin c y) n.outputs) in
      ap (slice_get (flat_map (λ y. twofold (λ c. twin c y)) n.outputs ++ alarm_net n ∷ [])) e ∙ get_after (flat_map (λ y. twofold (λ c. twin c y)) n.outputs) (alarm_net n ∷ []) 0

  -- the output at a place
  record OutputAt (k : ℕ) : Type 0 where
    pub net : ℕ
    pub below : net < net_count (guard_net n)
    pub is : slice_get (guard_net n).outputs k ≡ Some net
    pub kind : ((j : ℕ) × (y : ℕ) × (c : ℕ) × (slice_get n.outputs j ≡ Some y) × (y < net_count n) × (c < 2) × (k ≡ 2 * j + c) × (net ≡ twin c y)) ⊎ ((k ≡ 2 * length n.outputs) × (net ≡ alarm_net n))

  output_at : (k : ℕ) → k < length (guard_net n).outputs → OutputAt k
  output_at k h = go (cases_lt k (2 * length n.outputs))
    where
      go : (k < 2 * length n.outputs) ⊎ (2 * length n.outputs ≤ k) → OutputAt k
      go (inl l) =
          let p = halves k in
          let (y, at) = slice_get_there n.outputs p.half (omega (arith, l, p.is)) in
          let low = output_below p.half y at in
          record { net = twin p.copy y; below = twin_below y p.copy low p.few; is = ap (slice_get (guard_net n).outputs) p.is ∙ output_twin p.half p.copy y at p.few; kind = inl (p.half, y, p.copy, at, low, p.few, p.is, refl) }
      go (inr l) =
          let e : k ≡ 2 * length n.outputs = omega (arith, h, l, length-outputs) in
          record { net = alarm_net n; below = omega (arith, Nodes.length-guarded n); is = ap (slice_get (guard_net n).outputs) e ∙ output_alarm; kind = inr (e, refl) }

  outputs_below : All (λ x. x < net_count (guard_net n)) (guard_net n).outputs
  outputs_below k d h =
      let o = output_at k h in
      subst (λ g. g < net_count (guard_net n)) (sym (get_or_from_slice_get (guard_net n).outputs k o.net d o.is)) o.below

  outputs_apart : (j k : ℕ) → j < k → k < length (guard_net n).outputs → slice_index (guard_net n).outputs j ≢ slice_index (guard_net n).outputs k
  outputs_apart j k less h e =
      let a = output_at j (omega (arith, less, h)) in
      let b = output_at k h in
      go a.net b.net (sym (get_or_from_slice_get (guard_net n).outputs j a.net 0 a.is) ∙ (e ∙ get_or_from_slice_get (guard_net n).outputs k b.net 0 b.is)) a.kind b.kind
    where
      go : (u v : ℕ) → u ≡ v → ((i : ℕ) × (y : ℕ) × (c : ℕ) × (slice_get n.outputs i ≡ Some y) × (y < net_count n) × (c < 2) × (j ≡ 2 * i + c) × (u ≡ twin c y)) ⊎ ((j ≡ 2 * length n.outputs) × (u ≡ alarm_net n))
          → ((i : ℕ) × (y : ℕ) × (c : ℕ) × (slice_get n.outputs i ≡ Some y) × (y < net_count n) × (c < 2) × (k ≡ 2 * i + c) × (v ≡ twin c y)) ⊎ ((k ≡ 2 * length n.outputs) × (v ≡ alarm_net n)) → ⊥
      go u v f (inl (i, y, c, at, low, l, p, q)) (inl (i', y', c', at', low', l', p', q')) =
          let same = same_half y y' c c' l l' (sym q ∙ (f ∙ q')) in
          let net : y ≡ y' = same.0 in
          let copy : c ≡ c' = same.1 in
          let place : i ≡ i' = once i i' y' (at ∙ ap Some net) at' in
          omega (arith, less, p, p', copy, place)
      go u v f (inl (i, y, c, at, low, l, p, q)) (inr (p', q')) = omega (arith, f, q, q', low, l)
      go u v f (inr (p, q)) (inl (i', y', c', at', low', l', p', q')) = omega (arith, f, q, q', low', l')
      go u v f (inr (p, q)) (inr (p', q')) = omega (arith, p, p', less)

  -- ---- the clock

  no_name : (name : List ℕ) → Contains (net_names (guard_net n)) (clock_text name) → ⊥
  no_name name (k, h, e) =
      let a = ends_in k below in
      go a.front a.byte (tails_alike a.front name a.byte 107 (sym a.is ∙ (named ∙ clock_tailed name))).1 a.kind
    where
      below : k < net_count (guard_net n)
      below = omega (arith, h, length-append (guard_net n).inputs (map node_name (guard_net n).nodes), length-map (guard_net n).nodes node_name)

      named : name_of (guard_net n) k ≡ clock_text name
      named = get_or_default (net_names (guard_net n)) k [] (clock_text name) h ∙ e

      go : (p : List ℕ) (u : ℕ) → u ≡ 107 → ((a : Nodes.IsTwin n k) × (p ≡ name_of n a.net) × (u ≡ 48 + a.copy)) ⊎ (((a : Nodes.IsComparator n k) × (p ≡ name_of n a.net) × (u ≡ 101)) ⊎ ((k ≡ alarm_net n) × (u ≡ 122))) → ⊥
      go p u f (inl (a, x, i)) = omega (arith, f, i, a.few)
      go p u f (inr (inl (a, x, i))) = omega (arith, f, i)
      go p u f (inr (inr (x, i))) = omega (arith, f, i)

  clock_is : (clock : Option (Edge × List ℕ)) → IsClockOf n clock → IsClockOf (guard_net n) (option_map (λ c. (c.0, clock_text c.1)) clock)
  clock_is None h = tt
  clock_is (Some (edge, name)) h = (clock_is_name name h.0, clock_is_not_nil name, no_name name, omega (arith, h.3, more_registers n))

  pub is_valid : net_count n + pin_total n ≤ widest_nets → (order : List ℕ) → IsOrder (guard_net n) order → IsValid (guard_net n)
  is_valid few order ordered = record {
    unordered = record {
      model_is_name = ap is_name (model_same n) ∙ valid.unordered.model_is_name;
      few = omega (arith, few, Nodes.length-guarded n, outputs_few n valid);
      few_pins = omega (arith, few, guard_pins n, outputs_few n valid);
      few_outputs = omega (arith, few, length-outputs, outputs_few n valid);
      names_are_names = names_are_names;
      names_differ = names_differ;
      wired = wired;
      outputs_in_range = outputs_below;
      outputs_differ = outputs_apart;
      clock = subst (λ (c : Option (Edge × List ℕ)). IsClockOf (guard_net n) c) (sym (clock_same n)) (clock_is n.clock valid.unordered.clock);
    };
    ordered = (order, ordered);
  }
