-- The hardened design corresponds to its original: the eight rules.
use Rattle.std.proofs.Common.{◌≡◌, ℕ, ◌+◌, ◌-◌, ◌*◌, ◌<◌, ◌≤◌, ◌⊎◌, inl, inr, List, [], ◌∷◌, length, map, Option, Some, None, slice_get, refl, sym, ap, ◌∙◌, subst, arith, Bool, true, false, cond}
use Rattle.std.specs.Prelude.{slice_index}
use Rattle.std.specs.List.{flat_map, range_with_len}
use Rattle.std.proofs.lemmas.Bool.{cases_lt}
use Rattle.std.proofs.lemmas.List.FromFn.{get_or-map-range_with_len, length-map-range_with_len}
use Rattle.std.proofs.lemmas.Option.{slice_get_within, get_or_from_slice_get}
use Rattle.tmr_base.specs.declared.copies.CopyNo.{CopyNo}
use Rattle.tmr_base.specs.declared.copies.CopyNo.TheVariants.{First, Second, Third}
use Rattle.tmr_base.specs.declared.ids.Edge.{Edge}
use Rattle.tmr_base.specs.Parts.{PlainParts}
use Rattle.table_cover.specs.Cover.{IsMajority, cover_value, majority_of}
use Rattle.flat_net.specs.Net.{Net, Node, Table, Register, net_count, node_of, pins_at}
use Rattle.flat_net.specs.Free.{node_bit}
use Rattle.flat_net.proofs.Slots.{slot_there}
use Rattle.certificate.specs.declared.role.Role.TheVariants.{Copy, Voter}
use Rattle.certificate.specs.Cert.{role_of, copy_of, label_of, count_of, role_count, Fits}
use Rattle.certificate.specs.Reads.{Reads}
use Rattle.triplicate.specs.Labels.{Labeling}
use Rattle.triplicate.proofs.Certified.{cert_fits}
use Rattle.triplicate.proofs.Marks.{copy_marked}
use Rattle.certificate.specs.Rules.{SameEdge, CopiesTable, CopiesRegister, LabelReaches, Rule3, Rule4, Rule5, Rule6, Rule7, Rule8, AllHold}
use Rattle.certificate.specs.Starts.{spread_start}
use Rattle.feedback_cut.specs.Inner.{node_pins}
use Rattle.feedback_cut.specs.Cut.{ReadsUnvoted}
use Rattle.recovery_depth.specs.Depths.{own_register, is_some_register}
use Rattle.triplicate.specs.Voting.{ReadsNet}
use Rattle.triplicate.specs.Blocks.{threefold, hardened_clock}
use Rattle.triplicate.specs.Form.{majority_cover}
use Rattle.triplicate.specs.Numbers.{copy_net}
use Rattle.triplicate.specs.Construction.{pin_net, node_copy, hardened_net, hardened_cert}
use Rattle.triplicate.specs.Given.{IsGiven}
use Rattle.triplicate.proofs.Lists.{length-threes, threes_at}
use Rattle.triplicate.proofs.Tripled.{node_of_role, number_of, part_of_node, copy_listed, label_listed, length-hardened_inputs}
use Rattle.triplicate.proofs.Reading.{read_in_range, read_together, voted_role, unvoted_role, input_role, pin_reads}
use Rattle.triplicate.proofs.WalkLaws.{reach_starts, reach_goes_on}

majority : IsMajority majority_cover
unfolding cover_value
majority = record { three = refl; votes = votes }
  where
    votes : (a b c : Bool) → cover_value majority_cover (a ∷ b ∷ c ∷ []) ≡ majority_of a b c
    votes true true true = refl
    votes true true false = refl
    votes true false true = refl
    votes true false false = refl
    votes false true true = refl
    votes false true false = refl
    votes false false true = refl
    votes false false false = refl

same_edge : (clock : Option (Edge × List ℕ)) → SameEdge clock (hardened_clock clock)
same_edge None = tt
same_edge (Some (edge, name)) = refl

module _ (n : Net) (parts : PlainParts) (voted : ℕ → ℕ → Bool) (t : Labeling) (is : IsGiven n parts voted t) where
  -- ---- labels

  -- what a pin of a copy counts, and its reader if it is a register, are no more than its reader's label
  pub pin_counts : (y j x : ℕ) (c : CopyNo) → y < length n.nodes → ReadsNet n y j x → count_of (hardened_cert n parts voted t) (pin_net n parts voted y c j x) + length (own_register n y) ≤ slice_index t.labels y
  pin_counts y j x c h reads = go (voted y j) refl (cases_lt x (length n.inputs))
    where
      start : length (own_register n y) ≤ slice_index t.labels y
      start = reach_starts (ReadsUnvoted n parts voted) (own_register n) y (slice_index t.labels y) (is.labels.labels y h)

      go : (b : Bool) → voted y j ≡ b → (x < length n.inputs) ⊎ (length n.inputs ≤ x) → count_of (hardened_cert n parts voted t) (pin_net n parts voted y c j x) + length (own_register n y) ≤ slice_index t.labels y
      go true v any = omega (arith, start, ap (role_count (hardened_cert n parts voted t)) (voted_role n parts voted t is y j x c h reads v))
      go false v (inl low) = omega (arith, start, ap (role_count (hardened_cert n parts voted t)) (input_role n parts voted t is y j x c low v))
      go false v (inr low) =
          let z = x - length n.inputs in
          let same : x ≡ length n.inputs + z = omega arith in
          let there : ReadsNet n y j (length n.inputs + z) = record { pin = reads.pin; is = reads.is ∙ same } in
          let below : z < length n.nodes = omega (arith, read_in_range n parts voted t is y j x reads) in
          let counted = ap (role_count (hardened_cert n parts voted t)) (unvoted_role n parts voted t is y j x c reads low v) in
          let label = ap (λ k. label_of (hardened_cert n parts voted t) k c) same ∙ label_listed n parts voted t z c (omega (arith, is.labels.nodes)) in
          let step = reach_goes_on (ReadsUnvoted n parts voted) (own_register n) z y (slice_index t.labels z) (slice_index t.labels y) (is.labels.labels z below) (record { pin = j; reads = record { pin = there.pin; is = there.is; together = read_together n parts voted t is y j z there v }; unvoted = v }) (is.labels.labels y h) in
          omega (arith, step, counted, label)

  -- ---- the rules at the copy of a node

  -- the node that a copy stands for, and the copy
  copy_parts : (g x : ℕ) (c : CopyNo) → role_of (hardened_cert n parts voted t) g ≡ Some (Copy (record { 0 = x }) c) → (length n.inputs ≤ x) × (x < net_count n) × (node_of (hardened_net n parts voted) g ≡ Some (node_copy n parts voted (x - length n.inputs) c (node_of n x)))
  copy_parts g x c at =
      let (low, high, e) = number_of n parts voted t g (Copy (record { 0 = x }) c) at in
      (low, high, node_of_role n parts voted t g (Copy (record { 0 = x }) c) at)

  -- pin j of node x, which is y among the nodes
  pin_at : (x y j : ℕ) (pins : List ℕ) → x ≡ length n.inputs + y → pins_at (node_of n x) ≡ pins → j < length pins → ReadsNet n y j (slice_index pins j)
  pin_at x y j pins e at h =
      let same : node_pins n y ≡ pins = ap (λ k. pins_at (node_of n k)) (sym e) ∙ at in
      record { pin = omega (arith, ap length same); is = ap (λ (xs : List ℕ). slice_index xs j) same }

  rule3 : (g : ℕ) → Rule3 n (hardened_net n parts voted) (hardened_cert n parts voted t) g
  rule3 g x c p at in_part = go (node_of n x) refl
    where
      known : (length n.inputs ≤ x) × (x < net_count n) × (node_of (hardened_net n parts voted) g ≡ Some (node_copy n parts voted (x - length n.inputs) c (node_of n x)))
      known = copy_parts g x c at

      own : slice_index parts.of (x - length n.inputs) ≡ p
      own = part_of_node n parts voted t x p in_part

      back : x ≡ length n.inputs + (x - length n.inputs)
      back = omega (arith, known.0)

      go : (o : Option Node) → node_of n x ≡ o → CopiesTable (hardened_cert n parts voted t) (node_of n x) (node_of (hardened_net n parts voted) g) p c
      go None e = subst (λ (o : Option Node). CopiesTable (hardened_cert n parts voted t) o (node_of (hardened_net n parts voted) g) p c) (sym e) tt
      go (Some (Register name init pin)) e = subst (λ (o : Option Node). CopiesTable (hardened_cert n parts voted t) o (node_of (hardened_net n parts voted) g) p c) (sym e) tt
      go (Some (Table name cover pins)) e =
          let here : node_of (hardened_net n parts voted) g ≡ Some (node_copy n parts voted (x - length n.inputs) c (Some (Table name cover pins))) = known.2 ∙ ap (λ (o : Option Node). Some (node_copy n parts voted (x - length n.inputs) c o)) e in
          rw (e, here) (
            refl,
            λ j h. subst (λ q. Reads (hardened_cert n parts voted t) (slice_index (map (λ i. pin_net n parts voted (x - length n.inputs) c i (slice_index pins i)) (range_with_len 0 (length pins))) j) (slice_index pins j) q c) own
                (rw (get_or-map-range_with_len (λ i. pin_net n parts voted (x - length n.inputs) c i (slice_index pins i)) 0 (length pins) j j 0 h (omega arith)) (pin_reads n parts voted t is (x - length n.inputs) j (slice_index pins j) c (omega (arith, known.0, known.1)) (pin_at x (x - length n.inputs) j pins back (ap pins_at e) h))),
          )

  -- copies are marked as their nodes are
  rule4 : (f : List Bool) (g : ℕ) → Rule4 n f (hardened_net n parts voted) (spread_start (hardened_cert n parts voted t) f) (hardened_cert n parts voted t) g
  rule4 f g x c p at in_part = go (node_of n x) refl
    where
      known : (length n.inputs ≤ x) × (x < net_count n) × (node_of (hardened_net n parts voted) g ≡ Some (node_copy n parts voted (x - length n.inputs) c (node_of n x)))
      known = copy_parts g x c at

      own : slice_index parts.of (x - length n.inputs) ≡ p
      own = part_of_node n parts voted t x p in_part

      back : x ≡ length n.inputs + (x - length n.inputs)
      back = omega (arith, known.0)

      fits : Fits n (hardened_net n parts voted) (hardened_cert n parts voted t)
      fits = cert_fits n parts voted t is

      alike : node_bit (length (hardened_net n parts voted).inputs) (spread_start (hardened_cert n parts voted t) f) g ≡ node_bit (length n.inputs) f x
      alike =
          ap (λ m. node_bit m (spread_start (hardened_cert n parts voted t) f) g) (sym fits.hardened_inputs)
          ∙ (copy_marked (hardened_cert n parts voted t) f g x c at ∙ ap (λ m. node_bit m f x) fits.original_inputs)

      go : (o : Option Node) → node_of n x ≡ o → CopiesRegister (hardened_cert n parts voted t) (node_of n x) (node_bit (length n.inputs) f x) (node_of (hardened_net n parts voted) g) (node_bit (length (hardened_net n parts voted).inputs) (spread_start (hardened_cert n parts voted t) f) g) p c
      go None e = subst (λ (o : Option Node). CopiesRegister (hardened_cert n parts voted t) o (node_bit (length n.inputs) f x) (node_of (hardened_net n parts voted) g) (node_bit (length (hardened_net n parts voted).inputs) (spread_start (hardened_cert n parts voted t) f) g) p c) (sym e) tt
      go (Some (Table name cover pins)) e = subst (λ (o : Option Node). CopiesRegister (hardened_cert n parts voted t) o (node_bit (length n.inputs) f x) (node_of (hardened_net n parts voted) g) (node_bit (length (hardened_net n parts voted).inputs) (spread_start (hardened_cert n parts voted t) f) g) p c) (sym e) tt
      go (Some (Register name init pin)) e =
          let here : node_of (hardened_net n parts voted) g ≡ Some (node_copy n parts voted (x - length n.inputs) c (Some (Register name init pin))) = known.2 ∙ ap (λ (o : Option Node). Some (node_copy n parts voted (x - length n.inputs) c o)) e in
          rw (e, here) (
            refl,
            alike,
            subst (λ q. Reads (hardened_cert n parts voted t) (pin_net n parts voted (x - length n.inputs) c 0 pin) pin q c) own
                (pin_reads n parts voted t is (x - length n.inputs) 0 pin c (omega (arith, known.0, known.1)) (pin_at x (x - length n.inputs) 0 (pin ∷ []) back (ap pins_at e) (omega arith))),
          )

  rule5 : (g : ℕ) → Rule5 (hardened_net n parts voted) (hardened_cert n parts voted t) g
  rule5 g x p c at =
      let (high, below, needs, e) = number_of n parts voted t g (Voter (record { 0 = x }) (record { 0 = p }) c) at in
      rw (node_of_role n parts voted t g (Voter (record { 0 = x }) (record { 0 = p }) c) at) (listed high, majority)
    where
      listed : x < net_count n → threefold (copy_net n parts voted x) ≡ copy_of (hardened_cert n parts voted t) x First ∷ copy_of (hardened_cert n parts voted t) x Second ∷ copy_of (hardened_cert n parts voted t) x Third ∷ []
      listed high = rw (copy_listed n parts voted t x First high, copy_listed n parts voted t x Second high, copy_listed n parts voted t x Third high) refl

  rule6 : (g : ℕ) → Rule6 (hardened_net n parts voted) (hardened_cert n parts voted t) g
  rule6 g x c at = go (node_of n x) refl
    where
      known : (length n.inputs ≤ x) × (x < net_count n) × (node_of (hardened_net n parts voted) g ≡ Some (node_copy n parts voted (x - length n.inputs) c (node_of n x)))
      known = copy_parts g x c at

      back : x ≡ length n.inputs + (x - length n.inputs)
      back = omega (arith, known.0)

      label : label_of (hardened_cert n parts voted t) x c ≡ slice_index t.labels (x - length n.inputs)
      label = ap (λ k. label_of (hardened_cert n parts voted t) k c) back ∙ label_listed n parts voted t (x - length n.inputs) c (omega (arith, is.labels.nodes, known.0, known.1))

      owns : (o : Option Node) → node_of n x ≡ o → own_register n (x - length n.inputs) ≡ cond (is_some_register o) ((x - length n.inputs) ∷ []) []
      owns o e = ap (λ (m : Option Node). cond (is_some_register m) ((x - length n.inputs) ∷ []) []) (ap (node_of n) (sym back) ∙ e)

      go : (o : Option Node) → node_of n x ≡ o → LabelReaches (hardened_cert n parts voted t) (node_of (hardened_net n parts voted) g) (label_of (hardened_cert n parts voted t) x c)
      go None e = absurd (let (node, there) = slot_there (length n.inputs) n.nodes x known.0 known.1 in let none : None ≡ Some node = sym e ∙ there in cc)
      go (Some (Table name cover pins)) e =
          let here : node_of (hardened_net n parts voted) g ≡ Some (node_copy n parts voted (x - length n.inputs) c (Some (Table name cover pins))) = known.2 ∙ ap (λ (o : Option Node). Some (node_copy n parts voted (x - length n.inputs) c o)) e in
          rw (here, label) (λ j h'.
          let h : j < length pins = omega (arith, h', length-map-range_with_len (λ i. pin_net n parts voted (x - length n.inputs) c i (slice_index pins i)) 0 (length pins)) in
          rw (get_or-map-range_with_len (λ i. pin_net n parts voted (x - length n.inputs) c i (slice_index pins i)) 0 (length pins) j j 0 h (omega arith))
          (omega (arith, pin_counts (x - length n.inputs) j (slice_index pins j) c (omega (arith, known.0, known.1)) (pin_at x (x - length n.inputs) j pins back (ap pins_at e) h))))
      go (Some (Register name init pin)) e =
          let here : node_of (hardened_net n parts voted) g ≡ Some (node_copy n parts voted (x - length n.inputs) c (Some (Register name init pin))) = known.2 ∙ ap (λ (o : Option Node). Some (node_copy n parts voted (x - length n.inputs) c o)) e in
          rw (here, label) (omega (arith, pin_counts (x - length n.inputs) 0 pin c (omega (arith, known.0, known.1)) (pin_at x (x - length n.inputs) 0 (pin ∷ []) back (ap pins_at e) (omega arith)), ap length (owns (Some (Register name init pin)) e)))

  rule7 : (g : ℕ) → Rule7 (hardened_cert n parts voted t) g
  unfolding hardened_cert
  rule7 g x c p at in_part =
      let (low, high, e) = copy_parts g x c at in
      let own = part_of_node n parts voted t x p in_part in
      let back : x ≡ length n.inputs + (x - length n.inputs) = omega (arith, low) in
      let label = ap (λ k. label_of (hardened_cert n parts voted t) k c) back ∙ label_listed n parts voted t (x - length n.inputs) c (omega (arith, is.labels.nodes, low, high)) in
      let below : p < parts.count = omega (arith, own, is.in_range.in_range (x - length n.inputs) 0 (omega (arith, is.parts_long, low, high))) in
      omega (arith, label, (is.labels.depths p below).most (x - length n.inputs) (omega (arith, low, high)) own)

  rule8 : (j : ℕ) → Rule8 n (hardened_net n parts voted) (hardened_cert n parts voted t) j
  unfolding hardened_net
  rule8 j = record {
    no_more = λ h. omega (arith, h, length-threes (copy_net n parts voted) n.outputs);
    copy = λ i x c e at.
        let within = slice_get_within n.outputs i x at in
        let high : x < net_count n = subst (λ k. k < net_count n) (get_or_from_slice_get n.outputs i x 0 at) (is.valid.unordered.outputs_in_range i 0 within) in
        ap (slice_get (flat_map (λ x. threefold (copy_net n parts voted x)) n.outputs)) e ∙ (threes_at (copy_net n parts voted) n.outputs i x c at ∙ ap Some (sym (copy_listed n parts voted t x c high)));
  }

  rules12 : (length (hardened_net n parts voted).inputs ≡ 3 * length n.inputs) × SameEdge n.clock (hardened_net n parts voted).clock
  unfolding hardened_net
  rules12 = (length-hardened_inputs n, same_edge n.clock)

  pub corresponds : (f : List Bool) → AllHold n f (hardened_net n parts voted) (spread_start (hardened_cert n parts voted t) f) (hardened_cert n parts voted t)
  corresponds f r place = record {
    inputs = λ e f. rules12.0;
    clocks = λ e f. rules12.1;
    tables = λ e. rule3 (length (hardened_net n parts voted).inputs + place);
    registers = λ e. rule4 f (length (hardened_net n parts voted).inputs + place);
    voters = λ e. rule5 (length (hardened_net n parts voted).inputs + place);
    labels = λ e. rule6 (length (hardened_net n parts voted).inputs + place);
    depths = λ e. rule7 (length (hardened_net n parts voted).inputs + place);
    outputs = λ e. rule8 place;
  }
