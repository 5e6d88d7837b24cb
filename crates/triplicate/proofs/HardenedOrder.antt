-- The hardened design's nodes in an order in which each table stands behind each table that it reads.
use Rattle.std.proofs.Common.{◌≡◌, ℕ, ◌+◌, ◌-◌, ◌*◌, ◌<◌, ◌≤◌, ◌⊎◌, inl, inr, List, length, map, Option, Some, None, slice_get, refl, sym, ap, ◌∙◌, subst, arith, Bool, true, false, if◌then◌else◌}
use Rattle.std.specs.Prelude.{slice_index}
use Rattle.std.specs.List.{flat_map, range_with_len}
use Rattle.std.proofs.lemmas.Bool.{cases_lt}
use Rattle.std.proofs.lemmas.List.FromFn.{length-range_with_len, get_or-range_with_len, get_or-map-range_with_len, length-map-range_with_len}
use Rattle.std.proofs.lemmas.Option.{slice_get-get_or, slice_get_within, get_or_from_slice_get}
use Rattle.tmr_base.specs.declared.copies.CopyNo.{CopyNo}
use Rattle.tmr_base.specs.Copies.{copy_number}
use Rattle.tmr_base.specs.Parts.{PlainParts}
use Rattle.flat_net.specs.Net.{Net, Node, Table, Register, net_count, node_of, table_pins, pins_at, IsTable, IsOrder}
use Rattle.flat_net.proofs.Slots.{slot_within, slot_below, slice_get_there}
use Rattle.flat_net.specs.Private.ByPlace.{ComesBefore}
use Rattle.flat_net.proofs.ByPlace.{from_places}
use Rattle.certificate.specs.declared.role.Role.{Role}
use Rattle.certificate.specs.declared.role.Role.TheVariants.{Copy, Voter}
use Rattle.certificate.specs.Cert.{role_of}
use Rattle.feedback_cut.specs.Inner.{node_pins}
use Rattle.triplicate.specs.Labels.{Labeling}
use Rattle.triplicate.specs.Voting.{ReadsNet}
use Rattle.triplicate.specs.Blocks.{threefold, block, copies_of, hardened_roles}
use Rattle.triplicate.specs.Numbers.{block_start, copy_net, voter_net, voter_rank}
use Rattle.triplicate.specs.Construction.{pin_net, node_copy, role_node, hardened_net, hardened_cert, block_nets, net_order, hardened_order}
use Rattle.triplicate.specs.Given.{IsGiven}
use Rattle.triplicate.proofs.Lists.{copy_number_few, copy_numbered, threefold_at}
use Rattle.triplicate.proofs.Numbering.{owner, in_block, block_of_role, role_in_block, one_block, copies_of_node, copy_net_node, copy_net_input, voter_net_is, InBlock}
use Rattle.triplicate.proofs.Tripled.{node_of_role, role_of_input_copy, length-hardened_inputs}
use Rattle.triplicate.proofs.Reading.{voted_role, unvoted_role, input_role}
use Rattle.triplicate.proofs.Named.{hardened_count, role_there}
use Rattle.triplicate.proofs.Orders.{blocks_before, blocks_at, in_blocks, blocks_ascend}
use Rattle.triplicate.proofs.NetOrder.{IsNetOrder, net_ordered}

module _ (n : Net) (parts : PlainParts) (voted : ℕ → ℕ → Bool) (t : Labeling) (is : IsGiven n parts voted t) (order : List ℕ) (ordered : IsOrder n order) where
  nets : IsNetOrder n (net_order n order)
  nets = net_ordered n order is.valid ordered

  length-block_nets : (x : ℕ) → length (block_nets n parts voted x) ≡ length (block n parts voted x)
  length-block_nets x = length-range_with_len (block_start n parts voted x) (length (block n parts voted x))

  -- place k of the order: what stands at `offset` for net `net`, which stands at place `at` among the nets
  record Place (k : ℕ) : Type 0 where
    pub net : ℕ
    pub at : ℕ
    pub offset : ℕ
    pub below : net < net_count n
    pub listed : slice_get (net_order n order) at ≡ Some net
    pub within : offset < length (block n parts voted net)
    pub place : k ≡ blocks_before (block_nets n parts voted) (net_order n order) at + offset
    pub number : slice_index (hardened_order n parts voted order) k ≡ block_start n parts voted net + offset

  number_at : (x i : ℕ) → i < length (block n parts voted x) → slice_get (block_nets n parts voted x) i ≡ Some (block_start n parts voted x + i)
  number_at x i h = slice_get-get_or (block_nets n parts voted x) i 0 (omega (arith, length-block_nets x)) ∙ ap Some (get_or-range_with_len (block_start n parts voted x) (length (block n parts voted x)) i 0 h)

  place_at : (k : ℕ) → k < length (hardened_order n parts voted order) → Place k
  unfolding hardened_order
  place_at k h =
      let b = in_blocks (block_nets n parts voted) (net_order n order) k h in
      let within : b.offset < length (block n parts voted b.entry) = omega (arith, b.within, length-block_nets b.entry) in
      let here = blocks_at (block_nets n parts voted) (net_order n order) b.at b.offset b.entry b.is b.within ∙ number_at b.entry b.offset within in
      record {
        net = b.entry;
        at = b.at;
        offset = b.offset;
        below = nets.within b.at b.entry b.is;
        listed = b.is;
        within = within;
        place = b.place;
        number = ap (slice_index (flat_map (block_nets n parts voted) (net_order n order))) b.place ∙ get_or_from_slice_get (flat_map (block_nets n parts voted) (net_order n order)) (blocks_before (block_nets n parts voted) (net_order n order) b.at + b.offset) (block_start n parts voted b.entry + b.offset) 0 here;
      }

  -- an entry of what stands for a net stands in the order
  entry_at : (x a i : ℕ) → slice_get (net_order n order) a ≡ Some x → i < length (block n parts voted x) → (blocks_before (block_nets n parts voted) (net_order n order) a + i < length (hardened_order n parts voted order)) × (slice_index (hardened_order n parts voted order) (blocks_before (block_nets n parts voted) (net_order n order) a + i) ≡ block_start n parts voted x + i)
  unfolding hardened_order
  entry_at x a i at h =
      let here = blocks_at (block_nets n parts voted) (net_order n order) a i x at (omega (arith, h, length-block_nets x)) ∙ number_at x i h in (
        slice_get_within (flat_map (block_nets n parts voted) (net_order n order)) (blocks_before (block_nets n parts voted) (net_order n order) a + i) (block_start n parts voted x + i) here,
        get_or_from_slice_get (flat_map (block_nets n parts voted) (net_order n order)) (blocks_before (block_nets n parts voted) (net_order n order) a + i) (block_start n parts voted x + i) 0 here,
      )

  -- the block of a role's number
  block_at_role : (g : ℕ) (r : Role) → role_of (hardened_cert n parts voted t) g ≡ Some r → InBlock n parts voted g r
  unfolding hardened_cert
  block_at_role g r h = block_of_role n parts voted g r h

  role_at_entry : (x i : ℕ) (r : Role) → x < net_count n → i < length (block n parts voted x) → slice_get (block n parts voted x) i ≡ Some r → role_of (hardened_cert n parts voted t) (block_start n parts voted x + i) ≡ Some r
  unfolding hardened_cert
  role_at_entry x i r h l at = role_in_block n parts voted x i h l ∙ at

  in_range : (g : ℕ) (r : Role) → role_of (hardened_cert n parts voted t) g ≡ Some r → (length (hardened_net n parts voted).inputs ≤ g) × (g < net_count (hardened_net n parts voted))
  unfolding hardened_cert hardened_net
  in_range g r h = let (low, high) = slot_within (3 * length n.inputs) (hardened_roles n parts voted) g r h in (omega (arith, length-hardened_inputs n, low), omega (arith, hardened_count n parts voted t is, high))

  ports : length (hardened_net n parts voted).inputs ≡ 3 * length n.inputs
  unfolding hardened_net
  ports = length-hardened_inputs n

  -- what stands for a net that stands before stands before
  before : (k b w g : ℕ) (r : Role) (p : Place k) → role_of (hardened_cert n parts voted t) g ≡ Some r → owner r ≡ w → slice_get (net_order n order) b ≡ Some w → b < p.at → (j : ℕ) × (j < k) × (slice_index (hardened_order n parts voted order) j ≡ g)
  before k b w g r p at own listed less =
      let i = block_at_role g r at in
      let same : i.net ≡ w = sym ((in_block n parts voted i.net i.offset r i.below i.entry).1) ∙ own in
      let there : slice_get (net_order n order) b ≡ Some i.net = listed ∙ ap Some (sym same) in
      let here = entry_at i.net b i.offset there i.within in
      let rise = blocks_ascend (block_nets n parts voted) (net_order n order) b p.at i.net less there in
      (blocks_before (block_nets n parts voted) (net_order n order) b + i.offset, omega (arith, rise, length-block_nets i.net, i.within, p.place), here.1 ∙ sym i.number)

  no_table : (g : ℕ) → role_of (hardened_cert n parts voted t) g ≡ None → g < 3 * length n.inputs → IsTable (node_of (hardened_net n parts voted) g) → ⊥
  no_table g h l table = subst (λ (o : Option Node). IsTable o) (slot_below (length (hardened_net n parts voted).inputs) (hardened_net n parts voted).nodes g (omega (arith, ports))) table

  copy_before : (k : ℕ) (p : Place k) (c : CopyNo) (i : ℕ) → length n.inputs ≤ p.net → node_of (hardened_net n parts voted) (slice_index (hardened_order n parts voted order) k) ≡ Some (node_copy n parts voted (p.net - length n.inputs) c (node_of n p.net)) → ComesBefore (hardened_net n parts voted) (hardened_order n parts voted order) k i
  copy_before k p c i low here = go (node_of n p.net) refl
    where
      y : ℕ
      y = p.net - length n.inputs

      back : length n.inputs + (p.net - length n.inputs) ≡ p.net
      back = omega arith

      go : (o : Option Node) → node_of n p.net ≡ o → ComesBefore (hardened_net n parts voted) (hardened_order n parts voted order) k i
      go None e = λ h. absurd (let none : length (table_pins (node_of (hardened_net n parts voted) (slice_index (hardened_order n parts voted order) k))) ≡ 0 = ap (λ (m : Option Node). length (table_pins m)) (here ∙ ap (λ (o : Option Node). Some (node_copy n parts voted (p.net - length n.inputs) c o)) e) in omega (arith, none, h))
      go (Some (Register name init pin)) e = λ h. absurd (let none : length (table_pins (node_of (hardened_net n parts voted) (slice_index (hardened_order n parts voted order) k))) ≡ 0 = ap (λ (m : Option Node). length (table_pins m)) (here ∙ ap (λ (o : Option Node). Some (node_copy n parts voted (p.net - length n.inputs) c o)) e) in omega (arith, none, h))
      go (Some (Table name cover pins)) e = λ h table. found (pin_is h) (subst (λ g. IsTable (node_of (hardened_net n parts voted) g)) (pin_is h) table) (within h)
        where
          at_node : table_pins (node_of (hardened_net n parts voted) (slice_index (hardened_order n parts voted order) k)) ≡ map (λ j. pin_net n parts voted (p.net - length n.inputs) c j (slice_index pins j)) (range_with_len 0 (length pins))
          at_node = ap table_pins (here ∙ ap (λ (o : Option Node). Some (node_copy n parts voted (p.net - length n.inputs) c o)) e)

          within : i < length (table_pins (node_of (hardened_net n parts voted) (slice_index (hardened_order n parts voted order) k))) → i < length pins
          within h = omega (arith, h, ap length at_node, length-map-range_with_len (λ j. pin_net n parts voted (p.net - length n.inputs) c j (slice_index pins j)) 0 (length pins))

          pin_is : i < length (table_pins (node_of (hardened_net n parts voted) (slice_index (hardened_order n parts voted order) k))) → slice_index (table_pins (node_of (hardened_net n parts voted) (slice_index (hardened_order n parts voted order) k))) i ≡ pin_net n parts voted (p.net - length n.inputs) c i (slice_index pins i)
          pin_is h = ap (λ (xs : List ℕ). slice_index xs i) at_node ∙ get_or-map-range_with_len (λ j. pin_net n parts voted (p.net - length n.inputs) c j (slice_index pins j)) 0 (length pins) i i 0 (within h) (omega arith)

          own_pins : node_pins n (p.net - length n.inputs) ≡ pins
          own_pins = ap (λ x. pins_at (node_of n x)) back ∙ ap pins_at e

          reads : i < length pins → ReadsNet n (p.net - length n.inputs) i (slice_index pins i)
          reads l = record { pin = omega (arith, l, ap length own_pins); is = ap (λ (xs : List ℕ). slice_index xs i) own_pins }

          listed : i < length pins → (b : ℕ) × (b < p.at) × (slice_get (net_order n order) b ≡ Some (slice_index pins i))
          listed l =
              let same : table_pins (node_of n p.net) ≡ pins = ap table_pins e in
              let (b, less, at) = nets.after p.at p.net i p.listed (omega (arith, l, ap length same)) in
              (b, less, at ∙ ap (λ (xs : List ℕ). Some (slice_index xs i)) same)

          found : {g : ℕ} → g ≡ pin_net n parts voted (p.net - length n.inputs) c i (slice_index pins i) → IsTable (node_of (hardened_net n parts voted) (pin_net n parts voted (p.net - length n.inputs) c i (slice_index pins i))) → i < length pins → (j : ℕ) × (j < k) × (slice_index (hardened_order n parts voted order) j ≡ g)
          found {g} e' table l = by (voted (p.net - length n.inputs) i) refl (cases_lt (slice_index pins i) (length n.inputs))
            where
              node : p.net - length n.inputs < length n.nodes
              node = omega (arith, p.below, low)

              earlier : (r : Role) → role_of (hardened_cert n parts voted t) (pin_net n parts voted (p.net - length n.inputs) c i (slice_index pins i)) ≡ Some r → owner r ≡ slice_index pins i → (j : ℕ) × (j < k) × (slice_index (hardened_order n parts voted order) j ≡ g)
              earlier r at own =
                  let (b, less, there) = listed l in
                  let (j, m, is_there) = before k b (slice_index pins i) (pin_net n parts voted (p.net - length n.inputs) c i (slice_index pins i)) r p at own there less in
                  (j, m, is_there ∙ sym e')

              by : (v : Bool) → voted (p.net - length n.inputs) i ≡ v → (slice_index pins i < length n.inputs) ⊎ (length n.inputs ≤ slice_index pins i) → (j : ℕ) × (j < k) × (slice_index (hardened_order n parts voted order) j ≡ g)
              by true v any = earlier (Voter (record { 0 = slice_index pins i }) (record { 0 = slice_index parts.of (p.net - length n.inputs) }) c) (voted_role n parts voted t is (p.net - length n.inputs) i (slice_index pins i) c node (reads l) v) refl
              by false v (inl q) = absurd (no_table (pin_net n parts voted (p.net - length n.inputs) c i (slice_index pins i)) (input_role n parts voted t is (p.net - length n.inputs) i (slice_index pins i) c q v) (low_copy q v) table)
                where
                  low_copy : slice_index pins i < length n.inputs → voted (p.net - length n.inputs) i ≡ false → pin_net n parts voted (p.net - length n.inputs) c i (slice_index pins i) < 3 * length n.inputs
                  low_copy q v = omega (arith, ap (λ (b : Bool). if b then voter_net n parts voted (slice_index pins i) (slice_index parts.of (p.net - length n.inputs)) c else copy_net n parts voted (slice_index pins i) c) v, copy_net_input n parts voted (slice_index pins i) c q, copy_number_few c, q)
              by false v (inr q) = earlier (Copy (record { 0 = slice_index pins i }) c) (unvoted_role n parts voted t is (p.net - length n.inputs) i (slice_index pins i) c (reads l) q v) refl

  voter_before : (k : ℕ) (p : Place k) (q : ℕ) (c : CopyNo) (i : ℕ) → slice_index (hardened_order n parts voted order) k ≡ block_start n parts voted p.net + (length (copies_of n p.net) + (3 * voter_rank n parts voted p.net q + copy_number c)) → node_of (hardened_net n parts voted) (slice_index (hardened_order n parts voted order) k) ≡ Some (role_node n parts voted (Voter (record { 0 = p.net }) (record { 0 = q }) c)) → ComesBefore (hardened_net n parts voted) (hardened_order n parts voted order) k i
  voter_before k p q c i number here = λ h table. found (copy_numbered i (omega (arith, h, ap length pins_are))) (subst (λ (ps : List ℕ). IsTable (node_of (hardened_net n parts voted) (slice_index ps i))) pins_are table)
    where
      pins_are : table_pins (node_of (hardened_net n parts voted) (slice_index (hardened_order n parts voted order) k)) ≡ threefold (copy_net n parts voted p.net)
      pins_are = ap table_pins here

      offset : p.offset ≡ length (copies_of n p.net) + (3 * voter_rank n parts voted p.net q + copy_number c)
      offset = omega (arith, p.number, number)

      pin_is : (d : CopyNo) → copy_number d ≡ i → slice_index (threefold (copy_net n parts voted p.net)) i ≡ copy_net n parts voted p.net d
      pin_is d e = ap (slice_index (threefold (copy_net n parts voted p.net))) (sym e) ∙ get_or_from_slice_get (threefold (copy_net n parts voted p.net)) (copy_number d) (copy_net n parts voted p.net d) 0 (threefold_at (copy_net n parts voted p.net) d)

      found : (d : CopyNo) × (copy_number d ≡ i) → IsTable (node_of (hardened_net n parts voted) (slice_index (threefold (copy_net n parts voted p.net)) i)) → (j : ℕ) × (j < k) × (slice_index (hardened_order n parts voted order) j ≡ slice_index (table_pins (node_of (hardened_net n parts voted) (slice_index (hardened_order n parts voted order) k))) i)
      found (d, e) table = by (cases_lt p.net (length n.inputs))
        where
          by : (p.net < length n.inputs) ⊎ (length n.inputs ≤ p.net) → (j : ℕ) × (j < k) × (slice_index (hardened_order n parts voted order) j ≡ slice_index (table_pins (node_of (hardened_net n parts voted) (slice_index (hardened_order n parts voted order) k))) i)
          by (inl l) = absurd (no_table (copy_net n parts voted p.net d) (role_of_input_copy n parts voted t p.net d l) (omega (arith, copy_net_input n parts voted p.net d l, copy_number_few d, l)) (subst (λ g. IsTable (node_of (hardened_net n parts voted) g)) (pin_is d e) table))
          by (inr l) =
              let three = ap length (copies_of_node n p.net l) in
              let few = copy_number_few d in
              let here' = entry_at p.net p.at (copy_number d) p.listed (omega (arith, p.within, offset, three, few)) in
              (blocks_before (block_nets n parts voted) (net_order n order) p.at + copy_number d, omega (arith, p.place, offset, three, few), here'.1 ∙ (sym (copy_net_node n parts voted p.net d l) ∙ (sym (pin_is d e) ∙ sym (ap (λ (ps : List ℕ). slice_index ps i) pins_are))))

  pub is_order : IsOrder (hardened_net n parts voted) (hardened_order n parts voted order)
  is_order = from_places (hardened_net n parts voted) (hardened_order n parts voted order) (record {
    nodes = λ k h. let p = place_at k h in let (r, at) = slice_get_there (block n parts voted p.net) p.offset p.within in subst (λ g. (length (hardened_net n parts voted).inputs ≤ g) × (g < net_count (hardened_net n parts voted))) (sym p.number) (in_range (block_start n parts voted p.net + p.offset) r (role_at_entry p.net p.offset r p.below p.within at));
    complete = λ g low high.
        let (r, at) = role_there n parts voted t is g (omega (arith, low, ports)) high in
        let b = block_at_role g r at in
        let (a, listed) = nets.complete b.net b.below in
        let here = entry_at b.net a b.offset listed b.within in
        (blocks_before (block_nets n parts voted) (net_order n order) a + b.offset, here.0, here.1 ∙ sym b.number);
    once = λ j k less h e.
        let p = place_at j (omega arith) in
        let q = place_at k h in
        let same = one_block n parts voted p.net q.net p.offset q.offset p.within q.within (sym p.number ∙ (e ∙ q.number)) in
        let place : p.at ≡ q.at = nets.once p.at q.at q.net (p.listed ∙ ap Some same.0) q.listed in
        omega (arith, less, p.place, q.place, same.1, ap (blocks_before (block_nets n parts voted) (net_order n order)) place);
    after = λ k i h. follows k i (place_at k h);
  })
    where
      follows : (k i : ℕ) → Place k → ComesBefore (hardened_net n parts voted) (hardened_order n parts voted order) k i
      follows k i p = let (r, at) = slice_get_there (block n parts voted p.net) p.offset p.within in go r at
        where
          go : (r : Role) → slice_get (block n parts voted p.net) p.offset ≡ Some r → ComesBefore (hardened_net n parts voted) (hardened_order n parts voted order) k i
          go (Copy x c) at =
              let role = role_at_entry p.net p.offset (Copy x c) p.below p.within at in
              let (number, own) = in_block n parts voted p.net p.offset (Copy x c) p.below at in
              let node = ap (node_of (hardened_net n parts voted)) p.number ∙ node_of_role n parts voted t (block_start n parts voted p.net + p.offset) (Copy x c) role in
              copy_before k p c i (omega (arith, number.0, own)) (node ∙ ap (λ z. Some (node_copy n parts voted (z - length n.inputs) c (node_of n z))) own)
          go (Voter x q c) at =
              let role = role_at_entry p.net p.offset (Voter x q c) p.below p.within at in
              let (number, own) = in_block n parts voted p.net p.offset (Voter x q c) p.below at in
              let node = ap (node_of (hardened_net n parts voted)) p.number ∙ node_of_role n parts voted t (block_start n parts voted p.net + p.offset) (Voter x q c) role in
              voter_before k p q.0 c i (p.number ∙ (number.3 ∙ (ap (λ z. voter_net n parts voted z q.0 c) own ∙ voter_net_is n parts voted p.net q.0 c))) (node ∙ ap (λ z. Some (role_node n parts voted (Voter (record { 0 = z }) q c))) own)
