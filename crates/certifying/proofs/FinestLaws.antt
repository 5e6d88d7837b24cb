-- The certificate with the partitions of the forest is the finest, and its labels and depths are the least.
use Rattle.std.proofs.Common.{◌≡◌, ℕ, ◌+◌, ◌-◌, ◌<◌, ◌≤◌, Bool, List, length, get_or, Option, Some, None, refl, sym, ap, subst, ◌∙◌, arith}
use Rattle.tmr_base.specs.declared.copies.CopyNo.{CopyNo}
use Rattle.tmr_base.specs.Copies.{Three, of_copy}
use Rattle.flat_net.specs.Net.{Net, slot, IsValid}
use Rattle.flat_net.proofs.Slots.{slot_within, slot_there}
use Rattle.certificate.specs.declared.role.Role.{Role}
use Rattle.certificate.specs.declared.role.Role.TheVariants.{Copy, Voter}
use Rattle.certificate.specs.Cert.{PlainCert, IsCert, Fits, role_of, role_count, part_of, copy_of, label_of, count_of, depth_of, part_depth, three_or_zero}
use Rattle.certificate.specs.Rules.{Rule6, Rule7}
use Rattle.certificate.specs.Starts.{counted}
use Rattle.recovery_depth.specs.Chains.{relabeled, Admits}
use Rattle.certifying.specs.Certified.{IsAccepted}
use Rattle.certifying.specs.Finest.{SameRoles, role_place, place_of, IsFiner, IsFinest}
use Rattle.certifying.specs.Least.{AreLeastLabels}
use Rattle.certifying.specs.Private.Forests.{GoesAlong, FollowsReaders, KeepsJoins}
use Rattle.certifying.specs.Private.Labels.{AreReached}
use Rattle.certifying.specs.Private.Depths.{three_at, no_three, IsAbove}
use Rattle.certifying.specs.Private.Renumbered.{refined}
use Rattle.certifying.specs.Private.Refined.{AreFound}
use Rattle.certifying.proofs.PinLaws.{joins_kept}
use Rattle.certifying.proofs.RoleLaws.{copy_after, voter_after, voter_before}
use Rattle.certifying.proofs.LabelLaws.{reached_of, copy_role, label_below, slot_at_or}

module _ (n h : Net) (b : PlainCert) (cert : IsCert b) (fits : Fits n h b) (up : List ℕ) (readers : List (Option ℕ)) (depth part labels : List ℕ) (threes : List Three) (roles : List Role) (found : AreFound n h b up readers depth part labels threes roles) where
  -- the certificate that is found
  abbrev k : PlainCert
  k = refined b depth part threes roles

  same_b : SameRoles b k
  same_b = record { copies = copy_after n h b fits part readers roles found.renumbered; voters = voter_after n h b fits part readers roles found.renumbered }

  -- an original node's number among the nodes, with its partition
  record Sorted (m : PlainCert) (a p : ℕ) : Type 0 where
    node : ℕ
    within : node < length part
    own : get_or part node 0 ≡ p
    place : place_of m a ≡ part_of m (length n.inputs + node)

  part_here : (x p : ℕ) → part_of k x ≡ Some p → (length n.inputs ≤ x) × (x - length n.inputs < length part) × (get_or part (x - length n.inputs) 0 ≡ p)
  part_here x p e =
      let w = slot_within b.original_inputs part x p e in
      let back : b.original_inputs + (x - b.original_inputs) ≡ x = omega (arith, w.0) in
      let at : Some (get_or part (x - b.original_inputs) 0) ≡ Some p = sym (slot_at_or b.original_inputs part (x - b.original_inputs) 0 (omega (arith, w.0, w.1))) ∙ (ap (slot b.original_inputs part) back ∙ e) in
      let number : get_or part (x - b.original_inputs) 0 ≡ p = cc in
      (omega (arith, w.0, fits.original_inputs), omega (arith, w.0, w.1, fits.original_inputs), ap (λ (s : ℕ). get_or part (x - s) 0) (sym fits.original_inputs) ∙ number)

  module _ (f g : List Bool) (valid_n : IsValid n) (valid_h : IsValid h) (m : PlainCert) (other : IsAccepted n f h g k.version m) (same : SameRoles k m) where
    both : SameRoles b m
    both = record {
      copies = λ a x c e. same.copies a x c (same_b.copies a x c e);
      voters = λ a x p c e. let (q, there) = same_b.voters a x p c e in same.voters a x q c there;
    }

    keeps : KeepsJoins n h b (λ i. part_of m (length n.inputs + i)) (λ v. place_of m (length h.inputs + v))
    keeps = joins_kept n (counted m f) h (counted m g) m valid_n valid_h other.cert other.fits other.rules b both

    along : GoesAlong (λ i. part_of m (length n.inputs + i)) up
    along = found.joined.along (λ i. part_of m (length n.inputs + i)) (λ v. place_of m (length h.inputs + v)) keeps

    follows : FollowsReaders (λ i. part_of m (length n.inputs + i)) (λ v. place_of m (length h.inputs + v)) readers
    follows = found.joined.followed (λ i. part_of m (length n.inputs + i)) (λ v. place_of m (length h.inputs + v)) keeps

    -- nodes of one partition are in one of m
    alike : (i j : ℕ) → i < length part → j < length part → get_or part i 0 ≡ get_or part j 0 → part_of m (length n.inputs + i) ≡ part_of m (length n.inputs + j)
    alike = found.numbered.alike (λ i. part_of m (length n.inputs + i)) along

    sorted : (a p : ℕ) → place_of k a ≡ Some p → Sorted m a p
    sorted a p e = go (role_of k a) refl e
      where
        go : (o : Option Role) → role_of k a ≡ o → role_place k o ≡ Some p → Sorted m a p
        go None at e = absurd (cc)
        go (Some (Copy x c)) at e =
            let (low, within, own) = part_here x.0 p e in
            let there : role_of m a ≡ Some (Copy x c) = same.copies a x.0 c at in
            let back : length n.inputs + (x.0 - length n.inputs) ≡ x.0 = omega (arith, low) in
            record { node = x.0 - length n.inputs; within = within; own = own; place = ap (role_place m) there ∙ ap (part_of m) (sym back) }
        go (Some (Voter x q c)) at e =
            let (r, before, read) = voter_before n h b fits part readers roles found.renumbered a x.0 q.0 c at in
            let w = slot_within b.hardened_inputs b.roles a _ before in
            let back : length h.inputs + (a - length h.inputs) ≡ a = omega (arith, w.0, fits.hardened_inputs) in
            let own : Some q.0 ≡ Some p = e in
            let number : q.0 ≡ p = cc in
            record {
              node = read.reader;
              within = read.within;
              own = sym read.part ∙ number;
              place = ap (place_of m) (sym back) ∙ follows (a - length h.inputs) read.reader read.reads;
            }

    hardened : (a c p : ℕ) → place_of k a ≡ Some p → place_of k c ≡ Some p → place_of m a ≡ place_of m c
    hardened a c p e d =
        let s = sorted a p e in
        let t = sorted c p d in
        s.place ∙ (alike s.node t.node s.within t.within (s.own ∙ sym t.own) ∙ sym t.place)

    nodes : (x y p : ℕ) → part_of k x ≡ Some p → part_of k y ≡ Some p → part_of m x ≡ part_of m y
    nodes x y p e d =
        let (low_x, within_x, own_x) = part_here x p e in
        let (low_y, within_y, own_y) = part_here y p d in
        let at_x : length n.inputs + (x - length n.inputs) ≡ x = omega (arith, low_x) in
        let at_y : length n.inputs + (y - length n.inputs) ≡ y = omega (arith, low_y) in
        ap (part_of m) (sym at_x) ∙ (alike (x - length n.inputs) (y - length n.inputs) within_x within_y (own_x ∙ sym own_y) ∙ ap (part_of m) at_y)

    -- rules 6 and 7 of m
    labels_of_m : (a : ℕ) → Rule6 h m a
    labels_of_m a x c role =
        let w = slot_within m.hardened_inputs m.roles a _ role in
        let here : length h.inputs + (a - length h.inputs) ≡ a = omega (arith, w.0, other.fits.hardened_inputs) in
        subst (λ (z : ℕ). Rule6 h m z) here ((other.rules 6 (a - length h.inputs)).labels refl) x c role

    depths_of_m : (a : ℕ) → Rule7 m a
    depths_of_m a x c p role =
        let w = slot_within m.hardened_inputs m.roles a _ role in
        let here : length h.inputs + (a - length h.inputs) ≡ a = omega (arith, w.0, other.fits.hardened_inputs) in
        subst (λ (z : ℕ). Rule7 m z) here ((other.rules 7 (a - length h.inputs)).depths refl) x c p role

    -- the depth that m has for the partition of a node
    abbrev node_depth : ℕ → ℕ
    node_depth i = part_depth m (part_of m (length n.inputs + i))

    above : (i : ℕ) → i < length part → IsAbove threes i (part_depth m (part_of m (length n.inputs + i)))
    above i l c =
        let lt : i < length n.nodes = omega (arith, found.nodes, l) in
        let reached = reached_of h b m both.copies labels_of_m in
        let small = label_below n h b cert fits labels threes found.long found.below found.three (count_of m) reached i c lt in
        let there : role_of m (copy_of b (length n.inputs + i) c) ≡ Some (Copy (record { 0 = length n.inputs + i }) c) = both.copies _ _ c (copy_role n h b cert fits labels threes found.long found.below found.three i c lt) in
        let count : count_of m (copy_of b (length n.inputs + i) c) ≡ label_of m (length n.inputs + i) c = ap (role_count m) there in
        let (q, at) = slot_there m.original_inputs m.part (length n.inputs + i) (omega (arith, other.fits.original_inputs)) (omega (arith, other.fits.original_inputs, other.fits.original_nodes, lt)) in
        let most : label_of m (length n.inputs + i) c ≤ depth_of m q = depths_of_m (copy_of b (length n.inputs + i) c) (length n.inputs + i) c q there at in
        let is : part_depth m (part_of m (length n.inputs + i)) ≡ depth_of m q = ap (part_depth m) at in
        omega (arith, small, count, most, is)

    depths : (a p q : ℕ) → place_of k a ≡ Some p → place_of m a ≡ Some q → depth_of k p ≤ depth_of m q
    depths a p q e d =
        let s = sorted a p e in
        let small : get_or depth (get_or part s.node 0) 0 ≤ part_depth m (part_of m (length n.inputs + s.node)) = found.depths.nodes (λ i. part_depth m (part_of m (length n.inputs + i))) above (λ i j li lj same. ap (part_depth m) (alike i j li lj same)) s.node s.within in
        let own : get_or depth (get_or part s.node 0) 0 ≡ get_or depth p 0 = ap (λ (z : ℕ). get_or depth z 0) s.own in
        let is : part_depth m (part_of m (length n.inputs + s.node)) ≡ depth_of m q = ap (part_depth m) (sym s.place ∙ d) in
        omega (arith, small, own, is)

    finer : IsFiner k m
    finer = record { nodes = nodes; hardened = hardened; depths = depths }

  pub finest : (f g : List Bool) → IsValid n → IsValid h → IsFinest n f h g k
  finest f g valid_n valid_h m other same = finer f g valid_n valid_h m other same

  module _ (others : List Three) (depths : List ℕ) (admits : Admits h (relabeled k others depths)) where
    reached : AreReached h b (count_of (relabeled k others depths))
    reached = reached_of h b (relabeled k others depths) same_b.copies admits.labels

    label_small : (i : ℕ) (c : CopyNo) → i < length n.nodes → of_copy (three_at threes i) c ≤ label_of (relabeled k others depths) (length n.inputs + i) c
    label_small i c l =
        let small = label_below n h b cert fits labels threes found.long found.below found.three (count_of (relabeled k others depths)) reached i c l in
        let there : role_of k (copy_of b (length n.inputs + i) c) ≡ Some (Copy (record { 0 = length n.inputs + i }) c) = same_b.copies _ _ c (copy_role n h b cert fits labels threes found.long found.below found.three i c l) in
        let count : count_of (relabeled k others depths) (copy_of b (length n.inputs + i) c) ≡ label_of (relabeled k others depths) (length n.inputs + i) c = ap (role_count (relabeled k others depths)) there in
        omega (arith, small, count)

    no_smaller_label : (x : ℕ) (c : CopyNo) → label_of k x c ≤ label_of (relabeled k others depths) x c
    no_smaller_label x c = go (slot b.original_inputs threes x) refl
      where
        go : (o : Option Three) → slot b.original_inputs threes x ≡ o → label_of k x c ≤ label_of (relabeled k others depths) x c
        go None e = let zero : label_of k x c ≡ 0 = ap (λ (o : Option Three). three_or_zero o c) e in omega (arith, zero)
        go (Some three) e =
            let w = slot_within b.original_inputs threes x three e in
            let i : ℕ = x - length n.inputs in
            let back : length n.inputs + (x - length n.inputs) ≡ x = omega (arith, w.0, fits.original_inputs) in
            let lt : x - length n.inputs < length n.nodes = omega (arith, w.0, w.1, found.three.nodes, fits.original_inputs) in
            let at : label_of k (b.original_inputs + (x - length n.inputs)) c ≡ of_copy (three_at threes (x - length n.inputs)) c = ap (λ (o : Option Three). three_or_zero o c) (slot_at_or b.original_inputs threes (x - length n.inputs) no_three (omega (arith, lt, found.three.nodes))) in
            let here : b.original_inputs + (x - length n.inputs) ≡ x = omega (arith, back, fits.original_inputs) in
            let is : label_of k (b.original_inputs + (x - length n.inputs)) c ≡ label_of k x c = ap (λ (z : ℕ). label_of k z c) here in
            let that : label_of (relabeled k others depths) (length n.inputs + (x - length n.inputs)) c ≡ label_of (relabeled k others depths) x c = ap (λ (z : ℕ). label_of (relabeled k others depths) z c) back in
            omega (arith, label_small (x - length n.inputs) c lt, at, is, that)

    above_part : (i : ℕ) → i < length part → IsAbove threes i (get_or depths (get_or part i 0) 0)
    above_part i l c =
        let lt : i < length n.nodes = omega (arith, found.nodes, l) in
        let there : role_of k (copy_of b (length n.inputs + i) c) ≡ Some (Copy (record { 0 = length n.inputs + i }) c) = same_b.copies _ _ c (copy_role n h b cert fits labels threes found.long found.below found.three i c lt) in
        let at : part_of k (b.original_inputs + i) ≡ Some (get_or part i 0) = slot_at_or b.original_inputs part i 0 l in
        let here : part_of k (length n.inputs + i) ≡ Some (get_or part i 0) = ap (λ (s : ℕ). part_of k (s + i)) (sym fits.original_inputs) ∙ at in
        let most : label_of (relabeled k others depths) (length n.inputs + i) c ≤ get_or depths (get_or part i 0) 0 = admits.depths (copy_of b (length n.inputs + i) c) (length n.inputs + i) c (get_or part i 0) there here in
        omega (arith, label_small i c lt, most)

  pub least : AreLeastLabels h k
  least = record {
    no_smaller_label = no_smaller_label;
    no_smaller_depth = λ others depths admits p l. found.depths.parts (λ q. get_or depths q 0) (above_part others depths admits) p;
  }
