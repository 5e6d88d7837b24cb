-- The design that a number gives is valid.
use Rattle.std.proofs.Common.{◌≡◌, ◌≢◌, ℕ, ◌+◌, ◌-◌, ◌<◌, ◌≤◌, ◌⊎◌, inl, inr, Bool, true, false, List, [], ◌++◌, length, map, get_or, Option, Some, None, slice_get, refl, sym, ap, ◌∙◌, subst, arith, All, if◌then◌else◌}
use Rattle.std.specs.Prelude.{◌==◌, codes, min, slice_index, Contains}
use Rattle.std.specs.List.{range_with_len}
use Rattle.std.proofs.lemmas.Bool.{cases_lt}
use Rattle.std.proofs.lemmas.Bool.Decides.{nat_tests}
use Rattle.std.proofs.lemmas.List.{get_or_default}
use Rattle.std.proofs.lemmas.List.FromFn.{get_or-range_with_len, length-range_with_len, length-map-range_with_len}
use Rattle.tmr_base.specs.declared.ids.Edge.TheVariants.{Rising}
use Rattle.tmr_base.specs.Names.{is_name}
use Rattle.flat_net.specs.Net.{Node, net_count, node_of, net_names, register_count, table_pins, IsTable, IsWired, IsClockOf, IsOrder, IsValid}
use Rattle.flat_net.proofs.Slots.{slot_at, slot_within, slot_below}
use Rattle.flat_net.specs.Private.ByPlace.{ComesBefore}
use Rattle.flat_net.proofs.ByPlace.{from_places}
use Rattle.tmr_trial.specs.Designs.{input_text, node_at, nodes_drawn, state_at, clock_for, trial_outputs, design_of}
use Rattle.tmr_trial.proofs.Texts.{texts, texts_are_names, texts_apart, texts_no_clock, length-texts, clock_is_not_nil}
use Rattle.tmr_trial.proofs.NodeLaws.{node_wired, table_reads_before, node_there, nodes_named, pins_few}

some_same : (a b : Node) → Some a ≡ Some b → a ≡ b
some_same a b e = cc

no_table : (o : Option Node) → o ≡ None → IsTable o → ⊥
no_table o e is = let P : Option Node → Type 0 = IsTable in subst P e is

module _ (number nodes : ℕ) (few : nodes ≤ 100000) where
  pub names_are : net_names (design_of number nodes) ≡ texts nodes
  unfolding design_of
  names_are = ap (λ (xs : List (List ℕ)). map input_text (range_with_len 0 8) ++ xs) (nodes_named number nodes nodes)

  pub count_is : net_count (design_of number nodes) ≡ 8 + nodes
  unfolding design_of
  count_is = ap (λ (k : ℕ). 8 + k) (length-map-range_with_len (node_at number nodes) 0 nodes)

  -- node i
  pub node_is : (i : ℕ) → i < nodes → node_of (design_of number nodes) (8 + i) ≡ Some (node_at number nodes i)
  unfolding design_of
  node_is i h =
      let at : 8 + i - 8 ≡ i = omega arith in
      slot_at 8 (nodes_drawn number nodes nodes) (8 + i) (omega arith) ∙ (ap (slice_get (nodes_drawn number nodes nodes)) at ∙ node_there number nodes i h)

  input_is : (x : ℕ) → x < 8 → node_of (design_of number nodes) x ≡ None
  unfolding design_of
  input_is x h = slot_below 8 (nodes_drawn number nodes nodes) x h

  -- a net with a node is one of the nodes
  node_within : (x : ℕ) (node : Node) → node_of (design_of number nodes) x ≡ Some node → (8 ≤ x) × (x < 8 + nodes)
  unfolding design_of
  node_within x node e =
      let w = slot_within 8 (nodes_drawn number nodes nodes) x node e in
      (w.0, omega (arith, w.1, length-map-range_with_len (node_at number nodes) 0 nodes))

  wired : (x : ℕ) (node : Node) → node_of (design_of number nodes) x ≡ Some node → IsWired (net_count (design_of number nodes)) node
  wired x node e =
      let w = node_within x node e in
      let at : x ≡ 8 + (x - 8) = omega (arith, w.0) in
      let below : x - 8 < nodes = omega (arith, w.0, w.1) in
      let same : node_at number nodes (x - 8) ≡ node = some_same (node_at number nodes (x - 8)) node (sym (node_is (x - 8) below) ∙ (ap (node_of (design_of number nodes)) (sym at) ∙ e)) in
      subst (λ (k : ℕ). IsWired k node) (sym count_is) (subst (IsWired (8 + nodes)) same (node_wired nodes (x - 8) (state_at number (x - 8)) below))

  outputs_in_range : All (λ x. x < net_count (design_of number nodes)) (trial_outputs nodes)
  outputs_in_range k d h =
      let long = length-range_with_len (8 + (nodes - min nodes 8)) (min nodes 8) in
      let within : k < min nodes 8 = omega (arith, h, long) in
      omega (arith, get_or-range_with_len (8 + (nodes - min nodes 8)) (min nodes 8) k d within, count_is, within)

  outputs_differ : (j k : ℕ) → j < k → k < length (trial_outputs nodes) → slice_index (trial_outputs nodes) j ≢ slice_index (trial_outputs nodes) k
  outputs_differ j k l h e =
      let long = length-range_with_len (8 + (nodes - min nodes 8)) (min nodes 8) in
      let within : k < min nodes 8 = omega (arith, h, long) in
      let before : j < min nodes 8 = omega arith in
      omega (arith, e, l, get_or-range_with_len (8 + (nodes - min nodes 8)) (min nodes 8) k 0 within, get_or-range_with_len (8 + (nodes - min nodes 8)) (min nodes 8) j 0 before)

  no_clock_name : Contains (net_names (design_of number nodes)) (codes "clk") → ⊥
  no_clock_name (x, within, at) =
      let long : length (net_names (design_of number nodes)) ≡ 8 + nodes = ap length names_are ∙ length-texts nodes in
      let below : x < 8 + nodes = omega (arith, within, long) in
      texts_no_clock nodes x below (ap (λ (xs : List (List ℕ)). get_or xs x []) (sym names_are) ∙ (get_or_default (net_names (design_of number nodes)) x [] (codes "clk") within ∙ at))

  clock_is : (registers : ℕ) → register_count (design_of number nodes) ≡ registers → IsClockOf (design_of number nodes) (clock_for registers)
  unfolding clock_for
  clock_is registers same = go (registers == 0) refl
    where
      positive : (k : ℕ) → (k == 0) ≡ false → 0 < k
      positive k e = grind (arith, nat_tests)

      go : (b : Bool) → (registers == 0) ≡ b → IsClockOf (design_of number nodes) (if b then None else Some (Rising, codes "clk"))
      go true e = tt
      go false e = (refl, clock_is_not_nil, no_clock_name, omega (arith, same, positive registers e))

  order_at : (k : ℕ) → k < nodes → slice_index (range_with_len 8 nodes) k ≡ 8 + k
  order_at k h = get_or-range_with_len 8 nodes k 0 h

  after : (k i : ℕ) → k < length (range_with_len 8 nodes) → ComesBefore (design_of number nodes) (range_with_len 8 nodes) k i
  after k i h within is_table =
      let below : k < nodes = omega (arith, h, length-range_with_len 8 nodes) in
      let same : node_of (design_of number nodes) (slice_index (range_with_len 8 nodes) k) ≡ Some (node_at number nodes k) = ap (node_of (design_of number nodes)) (order_at k below) ∙ node_is k below in
      let earlier = table_reads_before nodes k (state_at number k) i (subst (λ (o : Option Node). i < length (table_pins o)) same within) in
      go below (subst (λ (o : Option Node). slice_index (table_pins o) i < 8 + k) (sym same) earlier) (cases_lt _ 8)
    where
      pin : ℕ
      pin = slice_index (table_pins (node_of (design_of number nodes) (slice_index (range_with_len 8 nodes) k))) i

      go : k < nodes → slice_index (table_pins (node_of (design_of number nodes) (slice_index (range_with_len 8 nodes) k))) i < 8 + k → (slice_index (table_pins (node_of (design_of number nodes) (slice_index (range_with_len 8 nodes) k))) i < 8) ⊎ (8 ≤ slice_index (table_pins (node_of (design_of number nodes) (slice_index (range_with_len 8 nodes) k))) i)
          → (j : ℕ) × (j < k) × (slice_index (range_with_len 8 nodes) j ≡ slice_index (table_pins (node_of (design_of number nodes) (slice_index (range_with_len 8 nodes) k))) i)
      go below less (inl l) = absurd (no_table _ (input_is _ l) is_table)
      go below less (inr l) = (slice_index (table_pins (node_of (design_of number nodes) (slice_index (range_with_len 8 nodes) k))) i - 8, omega (arith, less, l), order_at _ (omega (arith, less, l, below)) ∙ omega (arith, l))

  inputs_long : length (design_of number nodes).inputs ≡ 8
  unfolding design_of
  inputs_long = refl

  pub ordered : IsOrder (design_of number nodes) (range_with_len 8 nodes)
  ordered = from_places (design_of number nodes) (range_with_len 8 nodes) (record {
    nodes = λ k h. (omega (arith, inputs_long, at k (within k h)), omega (arith, count_is, at k (within k h), within k h));
    complete = λ x low high. (x - 8, omega (arith, length-range_with_len 8 nodes, inputs_long, count_is, low, high), order_at (x - 8) (omega (arith, inputs_long, count_is, low, high)) ∙ omega (arith, inputs_long, low));
    once = λ j k l h e. omega (arith, e, l, at k (within k h), at j (omega (arith, l, within k h)));
    after = after;
  })
    where
      within : (k : ℕ) → k < length (range_with_len 8 nodes) → k < nodes
      within k h = omega (arith, h, length-range_with_len 8 nodes)

      at : (k : ℕ) → k < nodes → slice_index (range_with_len 8 nodes) k ≡ 8 + k
      at = order_at

  pub valid : IsValid (design_of number nodes)
  unfolding design_of
  valid = record {
    unordered = record {
      model_is_name = refl;
      few = omega (arith, count_is, few);
      few_pins = omega (arith, pins_few number nodes, few);
      few_outputs = omega (arith, length-range_with_len (8 + (nodes - min nodes 8)) (min nodes 8));
      names_are_names = λ x h. ap (λ (xs : List (List ℕ)). is_name (get_or xs x [])) names_are ∙ texts_are_names nodes x few (omega (arith, count_is, h));
      names_differ = λ x y h g e. texts_apart nodes x y few (omega (arith, count_is, h)) (omega (arith, count_is, g)) (ap (λ (xs : List (List ℕ)). get_or xs x []) (sym names_are) ∙ (e ∙ ap (λ (xs : List (List ℕ)). get_or xs y []) names_are));
      wired = wired;
      outputs_in_range = outputs_in_range;
      outputs_differ = outputs_differ;
      clock = clock_is _ refl;
    };
    ordered = (range_with_len 8 nodes, ordered);
  }
