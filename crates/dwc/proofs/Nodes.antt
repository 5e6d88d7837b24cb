-- What stands where in the guarded design.
use Rattle.std.proofs.Common.{◌≡◌, ℕ, ◌+◌, ◌-◌, ◌*◌, ◌<◌, ◌≤◌, ◌⊎◌, inl, inr, List, [], ◌∷◌, ◌++◌, length, map, Option, Some, None, slice_get, get_or, refl, sym, ap, ◌∙◌, arith}
use Rattle.std.specs.List.{flat_map}
use Rattle.std.specs.Option.{option_map}
use Rattle.std.specs.Prelude.{codes}
use Rattle.std.proofs.lemmas.Bool.{cases_lt}
use Rattle.std.proofs.lemmas.List.{length-append, length-map, get_or_append_left, get_or-append_right, get_or-map}
use Rattle.std.proofs.lemmas.Option.{slice_get-get_or, get_or_from_slice_get, slice_get_within, slice_get-map}
use Rattle.flat_net.specs.Net.{Net, Node, Table, Register, net_count, node_of, node_name, name_of}
use Rattle.flat_net.proofs.Slots.{slot_at, slot_below, slot_within, slot_there, slice_get_there}
use Rattle.dwc.specs.Guard.{twin, twin_text, twofold, node_twin, comparator, alarm, alarm_net, guard_net}
use Rattle.dwc.proofs.Lists.{get_before, get_after, length-twos, twos_at, halves}
use Rattle.dwc.proofs.Texts.{tailed, twin_tailed, comparator_tailed, alarm_tailed}

-- the name of a node
pub name_of_node : (n : Net) (x : ℕ) (node : Node) → node_of n x ≡ Some node → name_of n x ≡ node_name node
name_of_node n x node e =
    let (low, high) = slot_within (length n.inputs) n.nodes x node e in
    let back : x ≡ length n.inputs + (x - length n.inputs) = omega arith in
    let at = get_or_from_slice_get n.nodes (x - length n.inputs) node node (sym (slot_at (length n.inputs) n.nodes x low) ∙ e) in
    get_or-append_right n.inputs (map node_name n.nodes) (length n.inputs) x [] refl low ∙ (get_or-map node_name n.nodes (x - length n.inputs) node [] (omega arith) ∙ ap node_name at)

-- the name of an input
pub name_of_input : (n : Net) (x : ℕ) → x < length n.inputs → name_of n x ≡ get_or n.inputs x []
name_of_input n x h = get_or_append_left n.inputs (map node_name n.nodes) [] x h

pub twin_named : (node : Node) (c : ℕ) → node_name (node_twin node c) ≡ twin_text (node_name node) c
twin_named (Table name cover pins) c = refl
twin_named (Register name init pin) c = refl

module _ (n : Net) where
  pub length-inputs : length (guard_net n).inputs ≡ 2 * length n.inputs
  unfolding guard_net
  length-inputs = length-twos twin_text n.inputs

  pub length-nodes : length (guard_net n).nodes ≡ 2 * length n.nodes + length n.outputs + 1
  unfolding guard_net
  length-nodes = omega (arith, length-append (flat_map (λ node. twofold (node_twin node)) n.nodes) (map (comparator n) n.outputs ++ alarm n ∷ []), length-append (map (comparator n) n.outputs) (alarm n ∷ []), length-twos node_twin n.nodes, length-map n.outputs (comparator n))

  pub length-guarded : net_count (guard_net n) ≡ 2 * net_count n + length n.outputs + 1
  length-guarded = omega (arith, length-inputs, length-nodes)

  -- ---- by place among inputs and nodes

  pub input_get : (i c : ℕ) → i < length n.inputs → c < 2 → slice_get (guard_net n).inputs (2 * i + c) ≡ Some (twin_text (name_of n i) c)
  unfolding guard_net
  input_get i c h l = twos_at twin_text n.inputs i (get_or n.inputs i []) c (slice_get-get_or n.inputs i [] h) l ∙ ap (λ (name : List ℕ). Some (twin_text name c)) (sym (name_of_input n i h))

  pub twin_get : (i c : ℕ) (node : Node) → slice_get n.nodes i ≡ Some node → c < 2 → slice_get (guard_net n).nodes (2 * i + c) ≡ Some (node_twin node c)
  unfolding guard_net
  twin_get i c node h l =
      let at = twos_at node_twin n.nodes i node c h l in
      get_before (flat_map (λ node. twofold (node_twin node)) n.nodes) (map (comparator n) n.outputs ++ alarm n ∷ []) (2 * i + c) (slice_get_within (flat_map (λ node. twofold (node_twin node)) n.nodes) (2 * i + c) (node_twin node c) at) ∙ at

  behind_twins : (k : ℕ) → slice_get (guard_net n).nodes (2 * length n.nodes + k) ≡ slice_get (map (comparator n) n.outputs ++ alarm n ∷ []) k
  unfolding guard_net
  behind_twins k =
      let e : 2 * length n.nodes + k ≡ length (flat_map (λ node. twofold (node_twin node)) n.nodes) + k = omega (arith, length-twos node_twin n.nodes) in
      ap (slice_get (flat_map (λ node. twofold (node_twin node)) n.nodes ++ (map (comparator n) n.outputs ++ alarm n ∷ []))) e ∙ get_after (flat_map (λ node. twofold (node_twin node)) n.nodes) (map (comparator n) n.outputs ++ alarm n ∷ []) k

  pub comparator_get : (k y : ℕ) → slice_get n.outputs k ≡ Some y → slice_get (guard_net n).nodes (2 * length n.nodes + k) ≡ Some (comparator n y)
  comparator_get k y h =
      let within : k < length n.outputs = slice_get_within n.outputs k y h in
      behind_twins k ∙ (get_before (map (comparator n) n.outputs) (alarm n ∷ []) k (omega (arith, within, length-map n.outputs (comparator n))) ∙ (slice_get-map (comparator n) n.outputs k ∙ ap (option_map (comparator n)) h))

  pub alarm_get : slice_get (guard_net n).nodes (2 * length n.nodes + length n.outputs) ≡ Some (alarm n)
  alarm_get =
      let e : length n.outputs ≡ length (map (comparator n) n.outputs) + 0 = omega (arith, length-map n.outputs (comparator n)) in
      behind_twins (length n.outputs) ∙ (ap (slice_get (map (comparator n) n.outputs ++ alarm n ∷ [])) e ∙ get_after (map (comparator n) n.outputs) (alarm n ∷ []) 0)

  -- ---- by net number

  node_at : (x k : ℕ) (o : Option Node) → x ≡ 2 * length n.inputs + k → slice_get (guard_net n).nodes k ≡ o → node_of (guard_net n) x ≡ o
  node_at x k o e h =
      let back : x - length (guard_net n).inputs ≡ k = omega (arith, e, length-inputs) in
      slot_at (length (guard_net n).inputs) (guard_net n).nodes x (omega (arith, e, length-inputs)) ∙ (ap (slice_get (guard_net n).nodes) back ∙ h)

  pub twin_of_input : (x c : ℕ) → x < length n.inputs → c < 2 → node_of (guard_net n) (twin c x) ≡ None
  twin_of_input x c h l = slot_below (length (guard_net n).inputs) (guard_net n).nodes (twin c x) (omega (arith, h, l, length-inputs))

  pub twin_of_node : (x c : ℕ) (node : Node) → node_of n x ≡ Some node → c < 2 → node_of (guard_net n) (twin c x) ≡ Some (node_twin node c)
  twin_of_node x c node h l =
      let (low, high) = slot_within (length n.inputs) n.nodes x node h in
      node_at (twin c x) (2 * (x - length n.inputs) + c) (Some (node_twin node c)) (omega (arith, low)) (twin_get (x - length n.inputs) c node (sym (slot_at (length n.inputs) n.nodes x low) ∙ h) l)

  pub comparator_of : (k y : ℕ) → slice_get n.outputs k ≡ Some y → node_of (guard_net n) (2 * net_count n + k) ≡ Some (comparator n y)
  comparator_of k y h = node_at (2 * net_count n + k) (2 * length n.nodes + k) (Some (comparator n y)) (omega arith) (comparator_get k y h)

  pub alarm_of : node_of (guard_net n) (alarm_net n) ≡ Some (alarm n)
  alarm_of = node_at (alarm_net n) (2 * length n.nodes + length n.outputs) (Some (alarm n)) (omega arith) alarm_get

  -- ---- names

  pub twin_name : (x c : ℕ) → x < net_count n → c < 2 → name_of (guard_net n) (twin c x) ≡ tailed (name_of n x) (48 + c)
  twin_name x c h l = go (cases_lt x (length n.inputs))
    where
      go : (x < length n.inputs) ⊎ (length n.inputs ≤ x) → name_of (guard_net n) (twin c x) ≡ tailed (name_of n x) (48 + c)
      go (inl low) = name_of_input (guard_net n) (twin c x) (omega (arith, low, l, length-inputs)) ∙ (get_or_from_slice_get (guard_net n).inputs (2 * x + c) (twin_text (name_of n x) c) [] (input_get x c low l) ∙ twin_tailed (name_of n x) c)
      go (inr low) =
          let (node, at) = slot_there (length n.inputs) n.nodes x low h in
          name_of_node (guard_net n) (twin c x) (node_twin node c) (twin_of_node x c node at l) ∙ (twin_named node c ∙ (ap (λ (name : List ℕ). twin_text name c) (sym (name_of_node n x node at)) ∙ twin_tailed (name_of n x) c))

  pub comparator_name : (k y : ℕ) → slice_get n.outputs k ≡ Some y → name_of (guard_net n) (2 * net_count n + k) ≡ tailed (name_of n y) 101
  comparator_name k y h = name_of_node (guard_net n) (2 * net_count n + k) (comparator n y) (comparator_of k y h) ∙ comparator_tailed (name_of n y)

  pub alarm_name : name_of (guard_net n) (alarm_net n) ≡ tailed (codes "alarm") 122
  alarm_name = name_of_node (guard_net n) (alarm_net n) (alarm n) alarm_of ∙ alarm_tailed

  -- ---- each net is a copy, a comparator or the alarm

  pub record IsTwin (g : ℕ) : Type 0 where
    pub net : ℕ
    pub copy : ℕ
    pub below : net < net_count n
    pub few : copy < 2
    pub is : g ≡ twin copy net

  pub record IsComparator (g : ℕ) : Type 0 where
    pub place : ℕ
    pub net : ℕ
    pub listed : slice_get n.outputs place ≡ Some net
    pub is : g ≡ 2 * net_count n + place

  pub stands_for : (g : ℕ) → g < net_count (guard_net n) → IsTwin g ⊎ (IsComparator g ⊎ (g ≡ alarm_net n))
  stands_for g h = go (cases_lt g (2 * net_count n)) (cases_lt g (alarm_net n))
    where
      go : (g < 2 * net_count n) ⊎ (2 * net_count n ≤ g) → (g < alarm_net n) ⊎ (alarm_net n ≤ g) → IsTwin g ⊎ (IsComparator g ⊎ (g ≡ alarm_net n))
      go (inl l) any = let p = halves g in inl (record { net = p.half; copy = p.copy; below = omega (arith, l, p.is); few = p.few; is = p.is })
      go (inr l) (inl m) =
          let (y, at) = slice_get_there n.outputs (g - 2 * net_count n) (omega (arith, l, m)) in
          inr (inl (record { place = g - 2 * net_count n; net = y; listed = at; is = omega (arith, l) }))
      go (inr l) (inr m) = inr (inr (omega (arith, h, m, length-guarded)))
