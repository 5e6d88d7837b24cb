-- The labels of the hardened design are the most registers of its walks.
use Rattle.std.proofs.Common.{◌≡◌, ℕ, ◌+◌, ◌-◌, ◌*◌, ◌<◌, ◌≤◌, ◌⊎◌, inl, inr, List, [], ◌∷◌, length, length-append, map, Option, Some, None, refl, sym, ap, ◌∙◌, subst, arith, Bool, true, false, cond, if◌then◌else◌}
use Rattle.std.specs.Prelude.{slice_index}
use Rattle.std.proofs.lemmas.Bool.{cases_lt, false≢true}
use Rattle.tmr_base.specs.declared.copies.CopyNo.{CopyNo}
use Rattle.tmr_base.specs.declared.copies.CopyNo.TheVariants.{First}
use Rattle.tmr_base.specs.Copies.{Three}
use Rattle.tmr_base.specs.Parts.{PlainParts}
use Rattle.std.proofs.lemmas.List.{length-map}
use Rattle.flat_net.specs.Net.{Net, Node, Table, Register, net_count, node_of, pins_at, slot}
use Rattle.flat_net.proofs.Slots.{slot_below, slot_within, slot_there}
use Rattle.certificate.specs.declared.role.Role.{Role}
use Rattle.certificate.specs.declared.role.Role.TheVariants.{Copy}
use Rattle.certificate.specs.Cert.{PlainCert, role_of, role_count, part_of, label_of, depth_of, three_or_zero}
use Rattle.feedback_cut.specs.Inner.{node_pins}
use Rattle.feedback_cut.specs.Cut.{ReadsUnvoted}
use Rattle.recovery_depth.specs.Depths.{own_register, is_some_register, IsDepth}
use Rattle.recovery_depth.specs.Chains.{relabeled}
use Rattle.recovery_depth.specs.Walks.{Walk, starts, goes_on, IsReach}
use Rattle.recovery_depth.specs.Hardened.{role_at, node_at, is_copy, ReadsCopy, own_original, original_of}
use Rattle.recovery_depth.proofs.CopyLaws.{label_at, label_grows, label_own}
use Rattle.triplicate.specs.Labels.{Labeling}
use Rattle.triplicate.specs.Voting.{ReadsNet}
use Rattle.triplicate.specs.Blocks.{hardened_roles}
use Rattle.triplicate.specs.Form.{IsGreatestLabel, RulesAdmit, AreLeastLabels}
use Rattle.triplicate.specs.Numbers.{copy_net, voter_net}
use Rattle.triplicate.specs.Construction.{pin_net, node_copy, three_labels, hardened_net, hardened_cert}
use Rattle.triplicate.specs.Given.{IsGiven}
use Rattle.triplicate.proofs.Tripled.{node_of_role, number_of, role_of_copy, part_of_node, part_at_node, label_listed, length-hardened_inputs}
use Rattle.triplicate.proofs.Reading.{read_in_range, read_together, voted_role, unvoted_role, input_role}
use Rattle.triplicate.proofs.Formed.{copy_pin}
use Rattle.triplicate.proofs.WalkLaws.{AreAlike, reach_alike}

-- hardened node g is copy c of node y
pub record IsCopyOf (n h : Net) (k : PlainCert) (c : CopyNo) (y g : ℕ) : Type 0 where
  pub node : y < length n.nodes
  pub role : role_at h k g ≡ Some (Copy (record { 0 = length n.inputs + y }) c)

one_long : (b b' : Bool) (x y : ℕ) → b ≡ b' → length (cond b (y ∷ []) []) ≡ length (if b' then x ∷ [] else [])
one_long true true x y e = refl
one_long false false x y e = refl
one_long true false x y e = absurd (false≢true (sym e))
one_long false true x y e = absurd (false≢true e)

-- a walk of copies has no more registers than a label that the rules admit
walk_within : (h : Net) (k : PlainCert) (others : List Three) (depths : List ℕ) → RulesAdmit h k others depths → (g : ℕ) (seen : List ℕ) → Walk (ReadsCopy h k) (own_original h k) g seen → length seen ≤ label_at h (relabeled k others depths) g
walk_within h k others depths admits _ _ (starts g) = label_own h (relabeled k others depths) admits.reached g
walk_within h k others depths admits _ _ (goes_on f g seen walk next) =
    let up = walk_within h k others depths admits f seen walk in
    let grows = label_grows h (relabeled k others depths) admits.reached f g (record { pin = next.pin; within = next.within; is = next.is; reader = next.reader; read = next.read }) in
    omega (arith, up, grows, length-append seen (own_original h k g))

module _ (n : Net) (parts : PlainParts) (voted : ℕ → ℕ → Bool) (t : Labeling) (is : IsGiven n parts voted t) where
  -- where the copy of a node stands
  copy_number_is : (c : CopyNo) (y g : ℕ) → IsCopyOf n (hardened_net n parts voted) (hardened_cert n parts voted t) c y g → length (hardened_net n parts voted).inputs + g ≡ copy_net n parts voted (length n.inputs + y) c
  copy_number_is c y g like = (number_of n parts voted t (length (hardened_net n parts voted).inputs + g) (Copy (record { 0 = length n.inputs + y }) c) like.role).2

  copy_behind : (x : ℕ) (c : CopyNo) → length n.inputs ≤ x → x < net_count n → length (hardened_net n parts voted).inputs ≤ copy_net n parts voted x c
  unfolding hardened_cert hardened_net
  copy_behind x c low high = omega (arith, length-hardened_inputs n, (slot_within (3 * length n.inputs) (hardened_roles n parts voted) (copy_net n parts voted x c) (Copy (record { 0 = x }) c) (role_of_copy n parts voted t x c low high)).0)

  -- a copy is a register where its node is
  alike_kinds : (c : CopyNo) (y g : ℕ) → IsCopyOf n (hardened_net n parts voted) (hardened_cert n parts voted t) c y g → is_some_register (node_of n (length n.inputs + y)) ≡ is_some_register (node_at (hardened_net n parts voted) g)
  alike_kinds c y g like = go (node_of n (length n.inputs + y)) refl
    where
      here : node_at (hardened_net n parts voted) g ≡ Some (node_copy n parts voted ((length n.inputs + y) - length n.inputs) c (node_of n (length n.inputs + y)))
      here = node_of_role n parts voted t (length (hardened_net n parts voted).inputs + g) (Copy (record { 0 = length n.inputs + y }) c) like.role

      go : (o : Option Node) → node_of n (length n.inputs + y) ≡ o → is_some_register (node_of n (length n.inputs + y)) ≡ is_some_register (node_at (hardened_net n parts voted) g)
      go None e = absurd (let (node, there) = slot_there (length n.inputs) n.nodes (length n.inputs + y) (omega arith) (omega (arith, like.node)) in let none : None ≡ Some node = sym e ∙ there in cc)
      go (Some (Table name cover pins)) e = ap is_some_register e ∙ sym (ap is_some_register (here ∙ ap (λ (o : Option Node). Some (node_copy n parts voted ((length n.inputs + y) - length n.inputs) c o)) e))
      go (Some (Register name init pin)) e = ap is_some_register e ∙ sym (ap is_some_register (here ∙ ap (λ (o : Option Node). Some (node_copy n parts voted ((length n.inputs + y) - length n.inputs) c o)) e))

  alike_owns : (c : CopyNo) (y g : ℕ) → IsCopyOf n (hardened_net n parts voted) (hardened_cert n parts voted t) c y g → length (own_register n y) ≡ length (own_original (hardened_net n parts voted) (hardened_cert n parts voted t) g)
  alike_owns c y g like =
      one_long (is_some_register (node_of n (length n.inputs + y))) (is_some_register (node_at (hardened_net n parts voted) g)) (length n.inputs + y) y (alike_kinds c y g like)
      ∙ sym (ap (λ (r : Option Role). length (original_of r (is_some_register (node_at (hardened_net n parts voted) g)))) like.role)

  -- a pin of a copy
  alike_pins : (c : CopyNo) (y g j : ℕ) → IsCopyOf n (hardened_net n parts voted) (hardened_cert n parts voted t) c y g → (length (pins_at (node_at (hardened_net n parts voted) g)) ≡ length (node_pins n y)) × (j < length (node_pins n y) → slice_index (pins_at (node_at (hardened_net n parts voted) g)) j ≡ pin_net n parts voted y c j (slice_index (node_pins n y) j))
  alike_pins c y g j like = subst (λ k. (length (pins_at (node_of (hardened_net n parts voted) k)) ≡ length (node_pins n y)) × (j < length (node_pins n y) → slice_index (pins_at (node_of (hardened_net n parts voted) k)) j ≡ pin_net n parts voted y c j (slice_index (node_pins n y) j))) (sym (copy_number_is c y g like)) (copy_pin n parts voted t is y j c like.node)

  -- copies read as their nodes do
  forth : (c : CopyNo) (z y g : ℕ) → IsCopyOf n (hardened_net n parts voted) (hardened_cert n parts voted t) c y g → ReadsUnvoted n parts voted z y → (f : ℕ) × IsCopyOf n (hardened_net n parts voted) (hardened_cert n parts voted t) c z f × ReadsCopy (hardened_net n parts voted) (hardened_cert n parts voted t) f g
  forth c z y g like next = (
    copy_net n parts voted (length n.inputs + z) c - length (hardened_net n parts voted).inputs,
    record { node = below; role = role },
    record {
      pin = next.pin;
      within = omega (arith, (alike_pins c y g next.pin like).0, next.reads.pin);
      is = (alike_pins c y g next.pin like).1 next.reads.pin ∙ (ap (λ b. if b then voter_net n parts voted (slice_index (node_pins n y) next.pin) (slice_index parts.of y) c else copy_net n parts voted (slice_index (node_pins n y) next.pin) c) next.unvoted ∙ (ap (λ x. copy_net n parts voted x c) next.reads.is ∙ sym back));
      reader = ap is_copy like.role;
      read = ap is_copy role;
    },
  )
    where
      high : length n.inputs + z < net_count n
      high = read_in_range n parts voted t is y next.pin (length n.inputs + z) (record { pin = next.reads.pin; is = next.reads.is })

      below : z < length n.nodes
      below = omega (arith, high)

      back : length (hardened_net n parts voted).inputs + (copy_net n parts voted (length n.inputs + z) c - length (hardened_net n parts voted).inputs) ≡ copy_net n parts voted (length n.inputs + z) c
      back = omega (arith, copy_behind (length n.inputs + z) c (omega arith) high)

      role : role_at (hardened_net n parts voted) (hardened_cert n parts voted t) (copy_net n parts voted (length n.inputs + z) c - length (hardened_net n parts voted).inputs) ≡ Some (Copy (record { 0 = length n.inputs + z }) c)
      role = ap (role_of (hardened_cert n parts voted t)) back ∙ role_of_copy n parts voted t (length n.inputs + z) c (omega arith) high

  back : (c : CopyNo) (f g y : ℕ) → IsCopyOf n (hardened_net n parts voted) (hardened_cert n parts voted t) c y g → ReadsCopy (hardened_net n parts voted) (hardened_cert n parts voted t) f g → (z : ℕ) × IsCopyOf n (hardened_net n parts voted) (hardened_cert n parts voted t) c z f × ReadsUnvoted n parts voted z y
  back c f g y like next = go (voted y next.pin) refl (cases_lt (slice_index (node_pins n y) next.pin) (length n.inputs))
    where
      within : next.pin < length (node_pins n y)
      within = omega (arith, next.within, (alike_pins c y g next.pin like).0)

      reads : ReadsNet n y next.pin (slice_index (node_pins n y) next.pin)
      reads = record { pin = within; is = refl }

      number : pin_net n parts voted y c next.pin (slice_index (node_pins n y) next.pin) ≡ length (hardened_net n parts voted).inputs + f
      number = sym ((alike_pins c y g next.pin like).1 within) ∙ next.is

      copied : is_copy (role_of (hardened_cert n parts voted t) (pin_net n parts voted y c next.pin (slice_index (node_pins n y) next.pin))) ≡ true
      copied = ap (λ k. is_copy (role_of (hardened_cert n parts voted t) k)) number ∙ next.read

      go : (b : Bool) → voted y next.pin ≡ b → (slice_index (node_pins n y) next.pin < length n.inputs) ⊎ (length n.inputs ≤ slice_index (node_pins n y) next.pin) → (z : ℕ) × IsCopyOf n (hardened_net n parts voted) (hardened_cert n parts voted t) c z f × ReadsUnvoted n parts voted z y
      go true v any = absurd (false≢true (sym (ap is_copy (voted_role n parts voted t is y next.pin (slice_index (node_pins n y) next.pin) c like.node reads v)) ∙ copied))
      go false v (inl low) = absurd (false≢true (sym (ap is_copy (input_role n parts voted t is y next.pin (slice_index (node_pins n y) next.pin) c low v)) ∙ copied))
      go false v (inr low) =
          let same : slice_index (node_pins n y) next.pin ≡ length n.inputs + (slice_index (node_pins n y) next.pin - length n.inputs) = omega arith in (
            slice_index (node_pins n y) next.pin - length n.inputs,
            record {
              node = omega (arith, read_in_range n parts voted t is y next.pin (slice_index (node_pins n y) next.pin) reads);
              role = ap (role_of (hardened_cert n parts voted t)) (sym number) ∙ (unvoted_role n parts voted t is y next.pin (slice_index (node_pins n y) next.pin) c reads low v ∙ ap (λ x. Some (Copy (record { 0 = x }) c)) same);
            },
            record { pin = next.pin; reads = record { pin = within; is = same; together = read_together n parts voted t is y next.pin (slice_index (node_pins n y) next.pin - length n.inputs) (record { pin = within; is = same }) v }; unvoted = v },
          )

  there_alike : (c : CopyNo) → AreAlike (ReadsUnvoted n parts voted) (ReadsCopy (hardened_net n parts voted) (hardened_cert n parts voted t)) (own_register n) (own_original (hardened_net n parts voted) (hardened_cert n parts voted t)) (IsCopyOf n (hardened_net n parts voted) (hardened_cert n parts voted t) c)
  there_alike c = record { owns = λ y g like. alike_owns c y g like; steps = λ z y g like next. forth c z y g like next }

  back_alike : (c : CopyNo) → AreAlike (ReadsCopy (hardened_net n parts voted) (hardened_cert n parts voted t)) (ReadsUnvoted n parts voted) (own_original (hardened_net n parts voted) (hardened_cert n parts voted t)) (own_register n) (λ g y. IsCopyOf n (hardened_net n parts voted) (hardened_cert n parts voted t) c y g)
  back_alike c = record { owns = λ g y like. sym (alike_owns c y g like); steps = λ f g y like next. back c f g y like next }

  -- what is no node has no label
  no_label : (x : ℕ) → (x < length n.inputs) ⊎ (net_count n ≤ x) → slot (hardened_cert n parts voted t).original_inputs (hardened_cert n parts voted t).labels x ≡ None
  unfolding hardened_cert
  no_label x (inl low) = slot_below (length n.inputs) (map three_labels t.labels) x low
  no_label x (inr high) = go (slot (length n.inputs) (map three_labels t.labels) x) refl
    where
      go : (o : Option Three) → slot (length n.inputs) (map three_labels t.labels) x ≡ o → slot (length n.inputs) (map three_labels t.labels) x ≡ None
      go None e = e
      go (Some three) e = absurd (let (low, within) = slot_within (length n.inputs) (map three_labels t.labels) x three e in omega (arith, high, within, length-map t.labels three_labels, is.labels.nodes))

  -- what has a partition is a node
  part_within : (x p : ℕ) → part_of (hardened_cert n parts voted t) x ≡ Some p → (length n.inputs ≤ x) × (x < net_count n)
  unfolding hardened_cert
  part_within x p e = let (low, high) = slot_within (length n.inputs) parts.of x p e in (low, omega (arith, high, is.parts_long))

  reaches : (g x : ℕ) (c : CopyNo) → role_at (hardened_net n parts voted) (hardened_cert n parts voted t) g ≡ Some (Copy (record { 0 = x }) c) → IsReach (ReadsCopy (hardened_net n parts voted) (hardened_cert n parts voted t)) (own_original (hardened_net n parts voted) (hardened_cert n parts voted t)) g (label_of (hardened_cert n parts voted t) x c)
  reaches g x c at =
      let (low, high, number) = number_of n parts voted t (length (hardened_net n parts voted).inputs + g) (Copy (record { 0 = x }) c) at in
      let y = x - length n.inputs in
      let same : x ≡ length n.inputs + y = omega arith in
      let node : y < length n.nodes = omega arith in
      let like : IsCopyOf n (hardened_net n parts voted) (hardened_cert n parts voted t) c y g = record { node = node; role = at ∙ ap (λ z. Some (Copy (record { 0 = z }) c)) same } in
      let label : label_of (hardened_cert n parts voted t) x c ≡ slice_index t.labels y = ap (λ k. label_of (hardened_cert n parts voted t) k c) same ∙ label_listed n parts voted t y c (omega (arith, is.labels.nodes)) in
      subst (IsReach (ReadsCopy (hardened_net n parts voted) (hardened_cert n parts voted t)) (own_original (hardened_net n parts voted) (hardened_cert n parts voted t)) g) (sym label)
      (reach_alike (ReadsUnvoted n parts voted) (ReadsCopy (hardened_net n parts voted) (hardened_cert n parts voted t)) (own_register n) (own_original (hardened_net n parts voted) (hardened_cert n parts voted t)) (IsCopyOf n (hardened_net n parts voted) (hardened_cert n parts voted t) c) (λ g y. IsCopyOf n (hardened_net n parts voted) (hardened_cert n parts voted t) c y g) (there_alike c) (back_alike c) y g (slice_index t.labels y) like like (is.labels.labels y node))

  greatest : (p : ℕ) → p < length (hardened_cert n parts voted t).depth → IsGreatestLabel (hardened_cert n parts voted t) p (depth_of (hardened_cert n parts voted t) p)
  unfolding hardened_cert
  greatest p h = record {
    most = λ x c at.
        let (low, high) = slot_within (length n.inputs) parts.of x p at in
        let same : x ≡ length n.inputs + (x - length n.inputs) = omega arith in
        let node : x - length n.inputs < length n.nodes = omega (arith, is.parts_long) in
        omega (arith, ap (λ k. label_of (hardened_cert n parts voted t) k c) same, label_listed n parts voted t (x - length n.inputs) c (omega (arith, is.labels.nodes)), known.most (x - length n.inputs) node (part_of_node n parts voted t x p at));
    some = some known.some;
  }
    where
      known : IsDepth parts t.labels (length n.nodes) p (slice_index t.depths p)
      known = is.labels.depths p (omega (arith, is.labels.parts_long))

      some : (slice_index t.depths p ≡ 0) ⊎ ((x : ℕ) × (x < length n.nodes) × (slice_index parts.of x ≡ p) × (slice_index t.labels x ≡ slice_index t.depths p)) → (slice_index t.depths p ≡ 0) ⊎ ((x : ℕ) × (c : CopyNo) × (part_of (hardened_cert n parts voted t) x ≡ Some p) × (label_of (hardened_cert n parts voted t) x c ≡ slice_index t.depths p))
      some (inl e) = inl e
      some (inr (y, l, own, e)) =
          let behind : (length n.inputs + y) - length n.inputs ≡ y = omega arith in
          inr (length n.inputs + y, First, part_at_node n parts voted t is.parts_long (length n.inputs + y) (omega arith) (omega arith) ∙ ap (λ k. Some (slice_index parts.of k)) behind ∙ ap Some own, label_listed n parts voted t y First (omega (arith, is.labels.nodes)) ∙ e)

  -- where a copy stands
  copy_place : (x : ℕ) (c : CopyNo) → length n.inputs ≤ x → x < net_count n → role_at (hardened_net n parts voted) (hardened_cert n parts voted t) (copy_net n parts voted x c - length (hardened_net n parts voted).inputs) ≡ Some (Copy (record { 0 = x }) c)
  copy_place x c low high =
      let there : length (hardened_net n parts voted).inputs + (copy_net n parts voted x c - length (hardened_net n parts voted).inputs) ≡ copy_net n parts voted x c = omega (arith, copy_behind x c low high) in
      ap (role_of (hardened_cert n parts voted t)) there ∙ role_of_copy n parts voted t x c low high

  -- no label that the rules admit for a copy is smaller
  least_at : (others : List Three) (depths : List ℕ) → RulesAdmit (hardened_net n parts voted) (hardened_cert n parts voted t) others depths → (x : ℕ) (c : CopyNo) → length n.inputs ≤ x → x < net_count n → label_of (hardened_cert n parts voted t) x c ≤ label_of (relabeled (hardened_cert n parts voted t) others depths) x c
  least_at others depths admits x c low high = go (reaches place x c role).some
    where
      place : ℕ
      place = copy_net n parts voted x c - length (hardened_net n parts voted).inputs

      role : role_at (hardened_net n parts voted) (hardened_cert n parts voted t) (copy_net n parts voted x c - length (hardened_net n parts voted).inputs) ≡ Some (Copy (record { 0 = x }) c)
      role = copy_place x c low high

      go : (seen : List ℕ) × (Walk (ReadsCopy (hardened_net n parts voted) (hardened_cert n parts voted t)) (own_original (hardened_net n parts voted) (hardened_cert n parts voted t)) (copy_net n parts voted x c - length (hardened_net n parts voted).inputs) seen) × (length seen ≡ label_of (hardened_cert n parts voted t) x c) → label_of (hardened_cert n parts voted t) x c ≤ label_of (relabeled (hardened_cert n parts voted t) others depths) x c
      go (seen, walk, long) =
          let up : length seen ≤ label_at (hardened_net n parts voted) (relabeled (hardened_cert n parts voted t) others depths) (copy_net n parts voted x c - length (hardened_net n parts voted).inputs) = walk_within (hardened_net n parts voted) (hardened_cert n parts voted t) others depths admits (copy_net n parts voted x c - length (hardened_net n parts voted).inputs) seen walk in
          let label : label_at (hardened_net n parts voted) (relabeled (hardened_cert n parts voted t) others depths) (copy_net n parts voted x c - length (hardened_net n parts voted).inputs) ≡ label_of (relabeled (hardened_cert n parts voted t) others depths) x c = ap (role_count (relabeled (hardened_cert n parts voted t) others depths)) role in
          omega (arith, up, label, long)

  least_label : (others : List Three) (depths : List ℕ) → RulesAdmit (hardened_net n parts voted) (hardened_cert n parts voted t) others depths → (x : ℕ) (c : CopyNo) → label_of (hardened_cert n parts voted t) x c ≤ label_of (relabeled (hardened_cert n parts voted t) others depths) x c
  least_label others depths admits x c = go (cases_lt x (length n.inputs)) (cases_lt x (net_count n))
    where
      none : slot (hardened_cert n parts voted t).original_inputs (hardened_cert n parts voted t).labels x ≡ None → label_of (hardened_cert n parts voted t) x c ≤ label_of (relabeled (hardened_cert n parts voted t) others depths) x c
      none e = let zero : label_of (hardened_cert n parts voted t) x c ≡ 0 = ap (λ (o : Option Three). three_or_zero o c) e in omega (arith, zero)

      go : (x < length n.inputs) ⊎ (length n.inputs ≤ x) → (x < net_count n) ⊎ (net_count n ≤ x) → label_of (hardened_cert n parts voted t) x c ≤ label_of (relabeled (hardened_cert n parts voted t) others depths) x c
      go (inl low) any = none (no_label x (inl low))
      go (inr low) (inl high) = least_at others depths admits x c low high
      go (inr low) (inr high) = none (no_label x (inr high))

  least_depth : (others : List Three) (depths : List ℕ) → RulesAdmit (hardened_net n parts voted) (hardened_cert n parts voted t) others depths → (p : ℕ) → p < length (hardened_cert n parts voted t).depth → depth_of (hardened_cert n parts voted t) p ≤ slice_index depths p
  least_depth others depths admits p below = go (greatest p below).some
    where
      go : (depth_of (hardened_cert n parts voted t) p ≡ 0) ⊎ ((x : ℕ) × (c : CopyNo) × (part_of (hardened_cert n parts voted t) x ≡ Some p) × (label_of (hardened_cert n parts voted t) x c ≡ depth_of (hardened_cert n parts voted t) p)) → depth_of (hardened_cert n parts voted t) p ≤ slice_index depths p
      go (inl zero) = omega (arith, zero)
      go (inr (x, c, part, label)) =
          let (low, high) = part_within x p part in
          omega (arith, label, least_at others depths admits x c low high, admits.bounded (copy_net n parts voted x c - length (hardened_net n parts voted).inputs) x c p (copy_place x c low high) part)

  pub least_labels : AreLeastLabels (hardened_net n parts voted) (hardened_cert n parts voted t)
  least_labels = record { labels = reaches; depths = greatest; no_smaller_label = least_label; no_smaller_depth = least_depth }
