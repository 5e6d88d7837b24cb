-- The hardened design is valid.
use Rattle.std.proofs.Common.{◌≡◌, ◌≢◌, ℕ, zero, suc, ◌+◌, ◌-◌, ◌*◌, ◌<◌, ◌≤◌, ◌⊎◌, inl, inr, List, [], ◌∷◌, length, map, Option, Some, None, slice_get, refl, sym, ap, ◌∙◌, subst, arith, Bool, true, false, All, if◌then◌else◌}
use Rattle.std.specs.Prelude.{slice_index, count_by, Contains}
use Rattle.std.specs.List.{flat_map}
use Rattle.std.proofs.lemmas.Bool.{cases_lt, false≢true}
use Rattle.std.proofs.lemmas.List.{length-map, length-append, get_or_default}
use Rattle.std.proofs.lemmas.List.Sums.{sum_by-cons}
use Rattle.std.proofs.lemmas.List.FromFn.{get_or-map-range_with_len, length-map-range_with_len}
use Rattle.std.proofs.lemmas.Option.{slice_get_within, get_or_from_slice_get}
use Rattle.tmr_base.specs.declared.copies.CopyNo.{CopyNo}
use Rattle.tmr_base.specs.declared.copies.CopyNo.TheVariants.{First, Second, Third}
use Rattle.tmr_base.specs.declared.ids.Edge.{Edge}
use Rattle.tmr_base.specs.Copies.{copy_number}
use Rattle.tmr_base.specs.Names.{clock_text}
use Rattle.tmr_base.specs.Parts.{PlainParts}
use Rattle.table_cover.specs.Cover.{IsCover, IsRow}
use Rattle.flat_net.specs.Net.{node_name, Net, Node, Table, Register, net_count, node_of, net_names, name_of, pins_at, is_register, register_count, IsWired, IsClockOf, IsOrder, IsValid}
use Rattle.flat_net.proofs.Slots.{slot_at, slot_within, slot_below, slot_there, slice_get_there}
use Rattle.certificate.specs.declared.role.Role.{Role}
use Rattle.certificate.specs.declared.role.Role.TheVariants.{Copy, Voter}
use Rattle.certificate.specs.Cert.{role_of}
use Rattle.feedback_cut.specs.Inner.{node_pins}
use Rattle.triplicate.specs.Labels.{Labeling}
use Rattle.triplicate.specs.Voting.{ReadsNet}
use Rattle.triplicate.specs.Blocks.{threefold, hardened_roles, hardened_clock}
use Rattle.triplicate.specs.Form.{majority_cover}
use Rattle.triplicate.specs.Numbers.{copy_net, voter_net}
use Rattle.triplicate.specs.Construction.{pin_net, node_copy, role_node, hardened_net, hardened_cert}
use Rattle.triplicate.specs.Given.{IsGiven}
use Rattle.triplicate.proofs.Lists.{copy_number_few, same_copy, length-threes, threes_at, in_threes}
use Rattle.triplicate.proofs.Numbering.{HasNumber, copy_net_input, copy_net_node, start_behind}
use Rattle.triplicate.proofs.Tripled.{node_of_role, number_of, role_of_copy, length-hardened_inputs}
use Rattle.triplicate.proofs.Reading.{read_in_range, voted_role}
use Rattle.triplicate.proofs.Named.{hardened_count, role_there, stands_for, IsCopyNet, IsVoterNet, names_differ, names_are_names}
use Rattle.triplicate.proofs.Texts.{copy_is_no_clock, voter_is_no_clock, clock_is_not_nil, clock_is_name}

majority_is_cover : IsCover majority_cover
majority_is_cover = record {
  rows = rows;
  few = omega arith;
  empty_is_on = λ e. refl;
}
  where
    rows : All (IsRow 3) (majority_cover.rows)
    rows zero d h = (refl, refl)
    rows (suc zero) d h = (refl, refl)
    rows (suc (suc zero)) d h = (refl, refl)
    rows (suc (suc (suc k))) d h = absurd (omega arith)

no_node : (node : Node) → ◌≡◌ {A = Option Node} None (Some node) → ⊥
no_node node e = cc

-- ---- counts

abbrev one_if : Bool → ℕ
one_if b = if b then 1 else 0

some_passes : (xs : List Node) → 0 < count_by is_register xs → (i : ℕ) × (node : Node) × (slice_get xs i ≡ Some node) × (is_register node ≡ true)
some_passes [] h = absurd (omega (arith, h))
some_passes (x ∷ xs) h = go (is_register x) refl (some_passes xs)
  where
    go : (b : Bool) → is_register x ≡ b → (0 < count_by is_register xs → (i : ℕ) × (node : Node) × (slice_get xs i ≡ Some node) × (is_register node ≡ true)) → (i : ℕ) × (node : Node) × (slice_get (x ∷ xs) i ≡ Some node) × (is_register node ≡ true)
    go true e ih = (0, x, refl, e)
    go false e ih =
        let (i, node, at, passes) = ih (omega (arith, h, sum_by-cons (λ node. if is_register node then 1 else 0) x xs, ap one_if e)) in
        (suc i, node, at, passes)

passes_counts : (xs : List Node) (i : ℕ) (node : Node) → slice_get xs i ≡ Some node → is_register node ≡ true → 0 < count_by is_register xs
passes_counts [] i node at e = absurd (cc)
passes_counts (x ∷ xs) zero node at e =
    let same : x ≡ node = cc in
    omega (arith, sum_by-cons (λ node. if is_register node then 1 else 0) x xs, ap one_if (ap is_register same ∙ e))
passes_counts (x ∷ xs) (suc i) node at e = omega (arith, passes_counts xs i node at e, sum_by-cons (λ node. if is_register node then 1 else 0) x xs)

module _ (n : Net) (parts : PlainParts) (voted : ℕ → ℕ → Bool) (t : Labeling) (is : IsGiven n parts voted t) where
  role_below : (g : ℕ) (r : Role) → role_of (hardened_cert n parts voted t) g ≡ Some r → g < net_count (hardened_net n parts voted)
  unfolding hardened_cert
  role_below g r h = omega (arith, hardened_count n parts voted t is, (slot_within (3 * length n.inputs) (hardened_roles n parts voted) g r h).1)

  pub copy_below : (x : ℕ) (c : CopyNo) → x < net_count n → copy_net n parts voted x c < net_count (hardened_net n parts voted)
  copy_below x c h = go (cases_lt x (length n.inputs))
    where
      go : (x < length n.inputs) ⊎ (length n.inputs ≤ x) → copy_net n parts voted x c < net_count (hardened_net n parts voted)
      go (inl l) = omega (arith, hardened_count n parts voted t is, copy_net_input n parts voted x c l, copy_number_few c, l)
      go (inr l) = role_below (copy_net n parts voted x c) (Copy (record { 0 = x }) c) (role_of_copy n parts voted t x c l h)

  pin_below : (y j x : ℕ) (c : CopyNo) → y < length n.nodes → ReadsNet n y j x → pin_net n parts voted y c j x < net_count (hardened_net n parts voted)
  pin_below y j x c h reads = go (voted y j) refl
    where
      go : (b : Bool) → voted y j ≡ b → pin_net n parts voted y c j x < net_count (hardened_net n parts voted)
      go true v = role_below (pin_net n parts voted y c j x) (Voter (record { 0 = x }) (record { 0 = slice_index parts.of y }) c) (voted_role n parts voted t is y j x c h reads v)
      go false v = subst (λ g. g < net_count (hardened_net n parts voted)) (sym (ap (λ (b : Bool). if b then voter_net n parts voted x (slice_index parts.of y) c else copy_net n parts voted x c) v)) (copy_below x c (read_in_range n parts voted t is y j x reads))

  copy_wired : (x : ℕ) (c : CopyNo) → length n.inputs ≤ x → x < net_count n → IsWired (net_count (hardened_net n parts voted)) (node_copy n parts voted (x - length n.inputs) c (node_of n x))
  copy_wired x c low high = go (node_of n x) refl
    where
      back : length n.inputs + (x - length n.inputs) ≡ x
      back = omega arith

      reads : (j : ℕ) (pins : List ℕ) → pins_at (node_of n x) ≡ pins → j < length pins → ReadsNet n (x - length n.inputs) j (slice_index pins j)
      reads j pins at l =
          let same : node_pins n (x - length n.inputs) ≡ pins = ap (λ z. pins_at (node_of n z)) back ∙ at in
          record { pin = omega (arith, l, ap length same); is = ap (λ (xs : List ℕ). slice_index xs j) same }

      go : (o : Option Node) → node_of n x ≡ o → IsWired (net_count (hardened_net n parts voted)) (node_copy n parts voted (x - length n.inputs) c (node_of n x))
      go None e = absurd (let (node, there) = slot_there (length n.inputs) n.nodes x low high in let none : None ≡ Some node = sym e ∙ there in cc)
      go (Some (Table name cover pins)) e =
          let wired = is.valid.unordered.wired x (Table name cover pins) e in
          let long = length-map-range_with_len (λ j. pin_net n parts voted (x - length n.inputs) c j (slice_index pins j)) 0 (length pins) in
          rw e (
            (λ k d l.
                let l' : k < length pins = omega (arith, l, long) in
                rw (get_or-map-range_with_len (λ j. pin_net n parts voted (x - length n.inputs) c j (slice_index pins j)) 0 (length pins) k k d l' (omega arith)) (pin_below (x - length n.inputs) k (slice_index pins k) c (omega (arith, low, high)) (reads k pins (ap pins_at e) l'))),
            long ∙ wired.1,
            wired.2,
          )
      go (Some (Register name init pin)) e = rw e (pin_below (x - length n.inputs) 0 pin c (omega (arith, low, high)) (reads 0 (pin ∷ []) (ap pins_at e) (omega arith)))

  ports : length (hardened_net n parts voted).inputs ≡ 3 * length n.inputs
  unfolding hardened_net
  ports = length-hardened_inputs n

  wired : (g : ℕ) (node : Node) → node_of (hardened_net n parts voted) g ≡ Some node → IsWired (net_count (hardened_net n parts voted)) node
  wired g node at = go (cases_lt g (length (hardened_net n parts voted).inputs))
    where
      by_role : (r : Role) → role_of (hardened_cert n parts voted t) g ≡ Some r → HasNumber n parts voted r g → IsWired (net_count (hardened_net n parts voted)) (role_node n parts voted r)
      by_role (Copy x c) role place = copy_wired x.0 c place.0 place.1
      by_role (Voter x p c) role place = (below, refl, majority_is_cover)
        where
          below : All (λ g. g < net_count (hardened_net n parts voted)) (threefold (copy_net n parts voted x.0))
          below zero d h = copy_below x.0 First place.0
          below (suc zero) d h = copy_below x.0 Second place.0
          below (suc (suc zero)) d h = copy_below x.0 Third place.0
          below (suc (suc (suc k))) d h = absurd (omega arith)

      go : (g < length (hardened_net n parts voted).inputs) ⊎ (length (hardened_net n parts voted).inputs ≤ g) → IsWired (net_count (hardened_net n parts voted)) node
      go (inl l) = absurd (no_node node (sym (slot_below (length (hardened_net n parts voted).inputs) (hardened_net n parts voted).nodes g l) ∙ at))
      go (inr l) =
          let (low, high) = slot_within (length (hardened_net n parts voted).inputs) (hardened_net n parts voted).nodes g node at in
          let (r, role) = role_there n parts voted t is g (omega (arith, ports, low)) high in
          let same : Some (role_node n parts voted r) ≡ Some node = sym (node_of_role n parts voted t g r role) ∙ at in
          let is_node : role_node n parts voted r ≡ node = cc in
          subst (λ (m : Node). IsWired (net_count (hardened_net n parts voted)) m) is_node (by_role r role (number_of n parts voted t g r role))

  -- ---- outputs

  one_copy : (x y : ℕ) (c d : CopyNo) → x < net_count n → y < net_count n → copy_net n parts voted x c ≡ copy_net n parts voted y d → (x ≡ y) × (c ≡ d)
  one_copy x y c d h g e = go (cases_lt x (length n.inputs)) (cases_lt y (length n.inputs))
    where
      behind : (x : ℕ) (c : CopyNo) → length n.inputs ≤ x → x < net_count n → 3 * length n.inputs ≤ copy_net n parts voted x c
      behind x c low high = omega (arith, copy_net_node n parts voted x c low, start_behind n parts voted x)

      inputs : (x < y) ⊎ (y ≤ x) → (y < x) ⊎ (x ≤ y) → 3 * x + copy_number c ≡ 3 * y + copy_number d → (x ≡ y) × (c ≡ d)
      inputs (inl l) any f = absurd (omega (arith, l, f, copy_number_few c, copy_number_few d))
      inputs (inr l) (inl k) f = absurd (omega (arith, k, f, copy_number_few c, copy_number_few d))
      inputs (inr l) (inr k) f = let same : x ≡ y = omega arith in (same, same_copy c d (omega (arith, f, same)))

      go : (x < length n.inputs) ⊎ (length n.inputs ≤ x) → (y < length n.inputs) ⊎ (length n.inputs ≤ y) → (x ≡ y) × (c ≡ d)
      go (inl l) (inl m) = inputs (cases_lt x y) (cases_lt y x) (sym (copy_net_input n parts voted x c l) ∙ (e ∙ copy_net_input n parts voted y d m))
      go (inl l) (inr m) = absurd (omega (arith, e, copy_net_input n parts voted x c l, copy_number_few c, l, behind y d m g))
      go (inr l) (inl m) = absurd (omega (arith, e, copy_net_input n parts voted y d m, copy_number_few d, m, behind x c l h))
      go (inr l) (inr m) =
          let same : Some (Copy (record { 0 = x }) c) ≡ Some (Copy (record { 0 = y }) d) = sym (role_of_copy n parts voted t x c l h) ∙ (ap (role_of (hardened_cert n parts voted t)) e ∙ role_of_copy n parts voted t y d m g) in
          (ap owner_of same, ap copy_of_role same)
        where
          owner_of : Option Role → ℕ
          owner_of None = 0
          owner_of (Some (Copy z b)) = z.0
          owner_of (Some (Voter z p b)) = z.0

          copy_of_role : Option Role → CopyNo
          copy_of_role None = First
          copy_of_role (Some (Copy z b)) = b
          copy_of_role (Some (Voter z p b)) = b

  -- the output at a place
  record OutputAt (k : ℕ) : Type 0 where
    pub output : ℕ
    pub net : ℕ
    pub copy : CopyNo
    pub listed : slice_get n.outputs output ≡ Some net
    pub below : net < net_count n
    pub place : k ≡ 3 * output + copy_number copy
    pub value : slice_get (flat_map (λ x. threefold (copy_net n parts voted x)) n.outputs) k ≡ Some (copy_net n parts voted net copy)

  output_at : (k : ℕ) → k < length (flat_map (λ x. threefold (copy_net n parts voted x)) n.outputs) → OutputAt k
  output_at k h =
      let p = in_threes (length n.outputs) k (omega (arith, h, length-threes (copy_net n parts voted) n.outputs)) in
      let (x, at) = slice_get_there n.outputs p.triple p.below in
      record {
        output = p.triple;
        net = x;
        copy = p.copy;
        listed = at;
        below = subst (λ k. k < net_count n) (get_or_from_slice_get n.outputs p.triple x 0 at) (is.valid.unordered.outputs_in_range p.triple 0 p.below);
        place = p.is;
        value = ap (slice_get (flat_map (λ x. threefold (copy_net n parts voted x)) n.outputs)) p.is ∙ threes_at (copy_net n parts voted) n.outputs p.triple x p.copy at;
      }

  outputs_below : All (λ x. x < net_count (hardened_net n parts voted)) (flat_map (λ x. threefold (copy_net n parts voted x)) n.outputs)
  outputs_below k d h =
      let o = output_at k h in
      subst (λ g. g < net_count (hardened_net n parts voted)) (sym (get_or_from_slice_get (flat_map (λ x. threefold (copy_net n parts voted x)) n.outputs) k (copy_net n parts voted o.net o.copy) d o.value)) (copy_below o.net o.copy o.below)

  outputs_apart : (j k : ℕ) → j < k → k < length (flat_map (λ x. threefold (copy_net n parts voted x)) n.outputs) → slice_index (flat_map (λ x. threefold (copy_net n parts voted x)) n.outputs) j ≢ slice_index (flat_map (λ x. threefold (copy_net n parts voted x)) n.outputs) k
  outputs_apart j k less h e =
      let a = output_at j (omega arith) in
      let b = output_at k h in
      let same = one_copy a.net b.net a.copy b.copy a.below b.below (sym (get_or_from_slice_get (flat_map (λ x. threefold (copy_net n parts voted x)) n.outputs) j (copy_net n parts voted a.net a.copy) 0 a.value) ∙ (e ∙ get_or_from_slice_get (flat_map (λ x. threefold (copy_net n parts voted x)) n.outputs) k (copy_net n parts voted b.net b.copy) 0 b.value)) in
      go a b same.0 same.1 (cases_lt a.output b.output) (cases_lt b.output a.output)
    where
      go : (a : OutputAt j) (b : OutputAt k) → a.net ≡ b.net → a.copy ≡ b.copy → (a.output < b.output) ⊎ (b.output ≤ a.output) → (b.output < a.output) ⊎ (a.output ≤ b.output) → ⊥
      go a b net copy (inl l) any = is.valid.unordered.outputs_differ a.output b.output l (slice_get_within n.outputs b.output b.net b.listed) (get_or_from_slice_get n.outputs a.output a.net 0 a.listed ∙ (net ∙ sym (get_or_from_slice_get n.outputs b.output b.net 0 b.listed)))
      go a b net copy (inr l) (inl m) = is.valid.unordered.outputs_differ b.output a.output m (slice_get_within n.outputs a.output a.net a.listed) (get_or_from_slice_get n.outputs b.output b.net 0 b.listed ∙ (sym net ∙ sym (get_or_from_slice_get n.outputs a.output a.net 0 a.listed)))
      go a b net copy (inr l) (inr m) = omega (arith, less, a.place, b.place, l, m, ap copy_number copy)

  -- ---- the clock

  no_name : (name : List ℕ) → Contains (net_names (hardened_net n parts voted)) (clock_text name) → ⊥
  no_name name (k, h, e) = go (stands_for n parts voted t is k below)
    where
      below : k < net_count (hardened_net n parts voted)
      below = omega (arith, h, length-append (hardened_net n parts voted).inputs (map node_name (hardened_net n parts voted).nodes), length-map (hardened_net n parts voted).nodes node_name)

      named : name_of (hardened_net n parts voted) k ≡ clock_text name
      named = get_or_default (net_names (hardened_net n parts voted)) k [] (clock_text name) h ∙ e

      go : IsCopyNet n parts voted k ⊎ IsVoterNet n parts voted k → ⊥
      go (inl a) = copy_is_no_clock (name_of n a.net) name a.copy (sym a.name ∙ named)
      go (inr a) = voter_is_no_clock (name_of n a.net) name a.part a.copy (sym a.name ∙ named)

  register_there : 0 < register_count n → 0 < register_count (hardened_net n parts voted)
  register_there h =
      let (i, node, at, passes) = some_passes n.nodes h in
      let x = length n.inputs + i in
      let back : x - length n.inputs ≡ i = omega arith in
      let node_there : node_of n x ≡ Some node = slot_at (length n.inputs) n.nodes x (omega arith) ∙ (ap (slice_get n.nodes) back ∙ at) in
      let (low, high) = slot_within (length n.inputs) n.nodes x node node_there in
      let copied : node_of (hardened_net n parts voted) (copy_net n parts voted x First) ≡ Some (node_copy n parts voted (x - length n.inputs) First (Some node)) = node_of_role n parts voted t (copy_net n parts voted x First) (Copy (record { 0 = x }) First) (role_of_copy n parts voted t x First low high) ∙ ap (λ (o : Option Node). Some (node_copy n parts voted (x - length n.inputs) First o)) node_there in
      let (below, above) = slot_within (length (hardened_net n parts voted).inputs) (hardened_net n parts voted).nodes (copy_net n parts voted x First) (node_copy n parts voted (x - length n.inputs) First (Some node)) copied in
      passes_counts (hardened_net n parts voted).nodes (copy_net n parts voted x First - length (hardened_net n parts voted).inputs) (node_copy n parts voted (x - length n.inputs) First (Some node)) (sym (slot_at (length (hardened_net n parts voted).inputs) (hardened_net n parts voted).nodes (copy_net n parts voted x First) below) ∙ copied) (kind node passes (x - length n.inputs))
    where
      kind : (node : Node) → is_register node ≡ true → (y : ℕ) → is_register (node_copy n parts voted y First (Some node)) ≡ true
      kind (Table name cover pins) e y = absurd (false≢true e)
      kind (Register name init pin) e y = refl

  clock_is : (clock : Option (Edge × List ℕ)) → IsClockOf n clock → IsClockOf (hardened_net n parts voted) (hardened_clock clock)
  clock_is None h = tt
  clock_is (Some (edge, name)) h = (clock_is_name name h.0, clock_is_not_nil name, no_name name, register_there h.3)

  pub is_valid : (order : List ℕ) → IsOrder (hardened_net n parts voted) order → IsValid (hardened_net n parts voted)
  unfolding hardened_net
  is_valid order ordered = record {
    unordered = record {
      model_is_name = is.valid.unordered.model_is_name;
      few = omega (arith, hardened_count n parts voted t is, is.few);
      few_pins = is.few_pins;
      few_outputs = omega (arith, is.few_outputs, length-threes (copy_net n parts voted) n.outputs);
      names_are_names = names_are_names n parts voted t is;
      names_differ = names_differ n parts voted t is;
      wired = wired;
      outputs_in_range = outputs_below;
      outputs_differ = outputs_apart;
      clock = clock_is n.clock is.valid.unordered.clock;
    };
    ordered = (order, ordered);
  }
