-- The reaches of copies for labels, and the depths that were found, are admitted by the rules.
use Rattle.std.proofs.Common.{◌≡◌, ℕ, ◌+◌, ◌-◌, ◌<◌, ◌≤◌, true, List, [], ◌++◌, length, get_or, map, refl, sym, ◌∙◌, ap, subst, arith, length-append}
use Rattle.std.specs.Prelude.{Option, Some, None, slice_get}
use Rattle.std.specs.List.{range_with_len}
use Rattle.std.proofs.lemmas.List.{get_or-map}
use Rattle.std.proofs.lemmas.List.FromFn.{get_or-map-range_with_len, length-map-range_with_len}
use Rattle.std.proofs.lemmas.Option.{slice_get-get_or, get_or_from_slice_get}
use Rattle.tmr_base.specs.Copies.{Three, of_copy}
use Rattle.tmr_base.specs.declared.copies.CopyNo.{CopyNo}
use Rattle.tmr_base.specs.declared.copies.CopyNo.TheVariants.{First, Second, Third}
use Rattle.flat_net.specs.Net.{Net, Node, Table, Register, node_of, pins_at, slot}
use Rattle.flat_net.proofs.Slots.{slot_at, slot_within, slice_get_there}
use Rattle.certificate.specs.declared.role.Role.{Role}
use Rattle.certificate.specs.declared.role.Role.TheVariants.{Copy, Voter}
use Rattle.certificate.specs.Cert.{PlainCert, IsCert, role_of, role_count, label_of, depth_of, count_of, copy_of, three_or_zero, Fits}
use Rattle.certificate.specs.Rules.{Rule6, Rule7, LabelReaches}
use Rattle.recovery_depth.specs.declared.depth_and_chain.Deep.{Deep}
use Rattle.recovery_depth.specs.Walks.{Walk, starts, goes_on, IsReach}
use Rattle.recovery_depth.specs.Depths.{is_some_register}
use Rattle.recovery_depth.specs.Hardened.{role_at, node_at, is_copy, ReadsCopy, original_of, own_original}
use Rattle.recovery_depth.specs.Chains.{relabeled}
use Rattle.recovery_depth.specs.Least.{AreDeep, AreAdmitted, depth_in}
use Rattle.recovery_depth.specs.Private.LastRegisters.{number_at}
use Rattle.recovery_depth.proofs.CopyLaws.{node_with_role}

module _ (n h : Net) (k : PlainCert) (fits : Fits n h k) (cert : IsCert k) (reaches : List ℕ) (reached : (g : ℕ) → g < length h.nodes → IsReach (ReadsCopy h k) (own_original h k) g (number_at reaches g)) where
  reach_of : ℕ → CopyNo → ℕ
  reach_of x c = number_at reaches (copy_of k x c - length h.inputs)

  three_of : ℕ → Three
  three_of i = record { first = reach_of (k.original_inputs + i) First; second = reach_of (k.original_inputs + i) Second; third = reach_of (k.original_inputs + i) Third }

  labels_made : List Three
  labels_made = map three_of (range_with_len 0 (length k.part))

  three_is : (i : ℕ) (c : CopyNo) → of_copy (three_of i) c ≡ reach_of (k.original_inputs + i) c
  unfolding three_of
  three_is i First = refl
  three_is i Second = refl
  three_is i Third = refl

  -- the label of a copy
  label_made : (g x : ℕ) (c : CopyNo) → role_of k (length h.inputs + g) ≡ Some (Copy (record { 0 = x }) c) → (depths : List ℕ) → label_of (relabeled k labels_made depths) x c ≡ number_at reaches g
  unfolding labels_made reach_of
  label_made g x c e depths =
      let r = cert.roles_in_range (length h.inputs + g) (Copy (record { 0 = x }) c) e in
      let i : x - k.original_inputs < length k.part = omega (arith, r.0, r.1) in
      let d : Three = three_of 0 in
      let long : length (map three_of (range_with_len 0 (length k.part))) ≡ length k.part = length-map-range_with_len three_of 0 (length k.part) in
      let there : slot k.original_inputs (map three_of (range_with_len 0 (length k.part))) x ≡ Some (three_of (x - k.original_inputs)) = slot_at k.original_inputs (map three_of (range_with_len 0 (length k.part))) x r.0 ∙ (slice_get-get_or (map three_of (range_with_len 0 (length k.part))) (x - k.original_inputs) d (omega (arith, long, i)) ∙ ap Some (get_or-map-range_with_len three_of 0 (length k.part) (x - k.original_inputs) (x - k.original_inputs) d i (omega arith))) in
      let copy : copy_of k x c ≡ length h.inputs + g = cert.roles_are_copies (length h.inputs + g) x c e in
      let back : k.original_inputs + (x - k.original_inputs) ≡ x = omega (arith, r.0) in
      let less : copy_of k x c - length h.inputs ≡ g = omega (arith, copy) in
      ap (λ o. three_or_zero o c) there ∙ (three_is (x - k.original_inputs) c ∙ (ap (λ (y : ℕ). number_at reaches (copy_of k y c - length h.inputs)) back ∙ ap (number_at reaches) less))

  -- a reader's reach is at least that of what it reads, and its own register
  grows : (f g : ℕ) → f < length h.nodes → g < length h.nodes → ReadsCopy h k f g → number_at reaches f + length (own_original h k g) ≤ number_at reaches g
  grows f g fl gl r = go (reached f fl).some
    where
      go : (seen : List ℕ) × (Walk (ReadsCopy h k) (own_original h k) f seen) × (length seen ≡ number_at reaches f) → number_at reaches f + length (own_original h k g) ≤ number_at reaches g
      go (seen, w, e) = omega (arith, (reached g gl).most (seen ++ own_original h k g) (goes_on f g seen w r), length-append seen (own_original h k g), e)

  own_counts : (g : ℕ) → g < length h.nodes → length (own_original h k g) ≤ number_at reaches g
  own_counts g gl = (reached g gl).most (own_original h k g) (starts g)

  -- what a pin counts, and its reader's own register
  pin_counts : (depths : List ℕ) (g j : ℕ) → g < length h.nodes → is_copy (role_at h k g) ≡ true → j < length (pins_at (node_at h g)) → count_of (relabeled k labels_made depths) (get_or (pins_at (node_at h g)) j 0) + length (own_original h k g) ≤ number_at reaches g
  pin_counts depths g j gl t l = go (role_of k (get_or (pins_at (node_at h g)) j 0)) refl
    where
      go : (o : Option Role) → role_of k (get_or (pins_at (node_at h g)) j 0) ≡ o → count_of (relabeled k labels_made depths) (get_or (pins_at (node_at h g)) j 0) + length (own_original h k g) ≤ number_at reaches g
      go None e = let z : count_of (relabeled k labels_made depths) (get_or (pins_at (node_at h g)) j 0) ≡ 0 = ap (role_count (relabeled k labels_made depths)) e in omega (arith, z, own_counts g gl)
      go (Some (Voter x p c)) e = let z : count_of (relabeled k labels_made depths) (get_or (pins_at (node_at h g)) j 0) ≡ 0 = ap (role_count (relabeled k labels_made depths)) e in omega (arith, z, own_counts g gl)
      go (Some (Copy x c)) e =
          let w = node_with_role n h k fits (get_or (pins_at (node_at h g)) j 0) (ap is_copy e) in
          let at : length h.inputs + (get_or (pins_at (node_at h g)) j 0 - length h.inputs) ≡ get_or (pins_at (node_at h g)) j 0 = omega (arith, w.0) in
          let e' : role_of k (length h.inputs + (get_or (pins_at (node_at h g)) j 0 - length h.inputs)) ≡ Some (Copy x c) = ap (role_of k) at ∙ e in
          let z : count_of (relabeled k labels_made depths) (get_or (pins_at (node_at h g)) j 0) ≡ number_at reaches (get_or (pins_at (node_at h g)) j 0 - length h.inputs) = ap (role_count (relabeled k labels_made depths)) e ∙ label_made (get_or (pins_at (node_at h g)) j 0 - length h.inputs) x.0 c e' depths in
          let read : ReadsCopy h k (get_or (pins_at (node_at h g)) j 0 - length h.inputs) g = record { pin = j; within = l; is = sym at; reader = t; read = ap is_copy e' } in
          omega (arith, z, grows (get_or (pins_at (node_at h g)) j 0 - length h.inputs) g (omega (arith, w.0, w.1)) gl read)

  label_rule : (depths : List ℕ) (g x : ℕ) (c : CopyNo) → role_of k (length h.inputs + g) ≡ Some (Copy (record { 0 = x }) c) → LabelReaches (relabeled k labels_made depths) (node_at h g) (label_of (relabeled k labels_made depths) x c)
  label_rule depths g x c e = subst (LabelReaches (relabeled k labels_made depths) (node_at h g)) (sym (label_made g x c e depths)) (go (node_at h g) refl (pin_counts depths g))
    where
      gl : g < length h.nodes
      gl = let w = node_with_role n h k fits (length h.inputs + g) (ap is_copy e) in omega (arith, w.1)

      go : (o : Option Node) → node_at h g ≡ o → ((j : ℕ) → g < length h.nodes → is_copy (role_at h k g) ≡ true → j < length (pins_at (node_at h g)) → count_of (relabeled k labels_made depths) (get_or (pins_at (node_at h g)) j 0) + length (own_original h k g) ≤ number_at reaches g) → LabelReaches (relabeled k labels_made depths) o (number_at reaches g)
      go None d counts = tt
      go (Some (Table name cover pins)) d counts = λ j l. (
          let m : j < length (pins_at (node_at h g)) = subst (λ o. j < length (pins_at o)) (sym d) l in
          let b = counts j gl (ap is_copy e) m in
          let at : count_of (relabeled k labels_made depths) (get_or (pins_at (node_at h g)) j 0) ≡ count_of (relabeled k labels_made depths) (get_or pins j 0) = ap (λ o. count_of (relabeled k labels_made depths) (get_or (pins_at o) j 0)) d in
          omega (arith, b, at))
      go (Some (Register name init pin)) d counts =
          let m : 0 < length (pins_at (node_at h g)) = subst (λ o. 0 < length (pins_at o)) (sym d) (omega arith) in
          let b = counts 0 gl (ap is_copy e) m in
          let at : count_of (relabeled k labels_made depths) (get_or (pins_at (node_at h g)) 0 0) ≡ count_of (relabeled k labels_made depths) pin = ap (λ o. count_of (relabeled k labels_made depths) (get_or (pins_at o) 0 0)) d in
          let one : length (own_original h k g) ≡ 1 = ap (λ o. length (original_of o (is_some_register (node_at h g)))) e ∙ ap (λ o. length (original_of (Some (Copy (record { 0 = x }) c)) (is_some_register o))) d in
          omega (arith, b, at, one)

  -- a net with a copy's role, as a node
  as_node : (q : ℕ) → is_copy (role_of k q) ≡ true → length h.inputs + (q - length h.inputs) ≡ q
  as_node q t = let w = node_with_role n h k fits q t in omega (arith, w.0)

  rule6_made : (depths : List ℕ) (q : ℕ) → Rule6 h (relabeled k labels_made depths) q
  rule6_made depths q x c e =
      let at = as_node q (ap is_copy e) in
      subst (λ (z : ℕ). LabelReaches (relabeled k labels_made depths) (node_of h z) (label_of (relabeled k labels_made depths) x c)) at (label_rule depths (q - length h.inputs) x c (ap (role_of k) at ∙ e))

  rule7_made : (deeps : List Deep) → length deeps ≡ length k.depth → AreDeep h k deeps → (q : ℕ) → Rule7 (relabeled k labels_made (map depth_in deeps)) q
  rule7_made deeps long deep q x c p e part = go (slice_get_there deeps p pl)
    where
      at : length h.inputs + (q - length h.inputs) ≡ q
      at = as_node q (ap is_copy e)

      e' : role_of k (length h.inputs + (q - length h.inputs)) ≡ Some (Copy (record { 0 = x }) c)
      e' = ap (role_of k) at ∙ e

      gl : q - length h.inputs < length h.nodes
      gl = let w = node_with_role n h k fits q (ap is_copy e) in omega (arith, w.0, w.1)

      pl : p < length deeps
      pl = let w = slot_within k.original_inputs k.part x p part in let s = slot_at k.original_inputs k.part x w.0 in let m : p < length k.depth = subst (λ (v : ℕ). v < length k.depth) (get_or_from_slice_get k.part (x - k.original_inputs) p 0 (sym s ∙ part)) (cert.parts_in_range (x - k.original_inputs) 0 (omega (arith, w.0, w.1))) in omega (arith, long, m)

      go : (d : Deep) × (slice_get deeps p ≡ Some d) → label_of (relabeled k labels_made (map depth_in deeps)) x c ≤ depth_of (relabeled k labels_made (map depth_in deeps)) p
      go (d, s) = bounded (reached (q - length h.inputs) gl).some
        where
          depth : get_or (map depth_in deeps) p 0 ≡ d.depth
          depth = get_or-map depth_in deeps p d 0 pl ∙ ap depth_in (get_or_from_slice_get deeps p d d s)

          bounded : (seen : List ℕ) × (Walk (ReadsCopy h k) (own_original h k) (q - length h.inputs) seen) × (length seen ≡ number_at reaches (q - length h.inputs)) → label_of (relabeled k labels_made (map depth_in deeps)) x c ≤ depth_of (relabeled k labels_made (map depth_in deeps)) p
          bounded (seen, w, f) = omega (arith, label_made (q - length h.inputs) x c e' (map depth_in deeps), (deep p d s).most (q - length h.inputs) c seen (record { original = x; role = e'; part = part }) w, f, depth)

  pub are_admitted : (deeps : List Deep) → length deeps ≡ length k.depth → AreDeep h k deeps → AreAdmitted h k deeps
  are_admitted deeps long deep = record {
    labels = labels_made;
    reaches = λ g x c e. subst (IsReach (ReadsCopy h k) (own_original h k) g) (sym (label_made g x c e [])) (reached g (let w = node_with_role n h k fits (length h.inputs + g) (ap is_copy e) in omega (arith, w.1)));
    admits = record { labels = rule6_made (map depth_in deeps); depths = rule7_made deeps long deep };
  }
