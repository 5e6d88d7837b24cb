-- What the search leaves is a certificate, and so is what is made of it.
use Rattle.std.proofs.Common.{◌≡◌, ℕ, ◌+◌, ◌-◌, ◌<◌, ◌≤◌, ◌⊎◌, List, [], length, get_or, map, All, Option, Some, sym, ap, subst, ◌∙◌, arith}
use Rattle.std.proofs.lemmas.List.{length-map}
use Rattle.std.proofs.lemmas.List.Elements.{All-from_get_or}
use Rattle.tmr_base.specs.declared.ids.NetId.{NetId}
use Rattle.tmr_base.specs.declared.copies.CopyNo.{CopyNo}
use Rattle.tmr_base.specs.Copies.{Three}
use Rattle.flat_net.specs.Net.{Net, slot}
use Rattle.flat_net.proofs.Slots.{slot_at, slot_within, slot_map_read}
use Rattle.certificate.specs.declared.role.Role.{Role}
use Rattle.certificate.specs.declared.role.Role.TheVariants.{Copy, Voter}
use Rattle.certificate.specs.Threes.{three_ids}
use Rattle.certificate.specs.Cert.{PlainCert, IsCert, RoleIsInRange, role_of, copy_of, three_or_input}
use Rattle.certifying.specs.Private.Bare.{copy_in, IsSound, AreSound, HaveRoles, AreSmall, IsBare}
use Rattle.certifying.specs.Private.Found.{AreJoined}
use Rattle.certifying.specs.Private.Numbers.{AreNumbered}
use Rattle.certifying.specs.Private.Labels.{AreBelow}
use Rattle.certifying.specs.Private.Depths.{AreLabels, AreDepths}
use Rattle.certifying.specs.Private.Renumbered.{AreRenumbered, refined}
use Rattle.certifying.specs.Private.Refined.{AreFound}
use Rattle.certifying.proofs.RoleLaws.{copy_after, copy_before, voter_before}

module _ (version first inputs count hardened : ℕ) (copies : List (List NetId)) (labels : List Three) (roles : List Role) (depth part : List ℕ)
    (known : (version ≡ 1) ⊎ (version ≡ 2)) (few_first : first + count < 4294967295) (few_inputs : inputs + hardened < 4294967295)
    (copies_long : length copies ≡ count) (roles_long : length roles ≡ hardened) (labels_long : length labels ≡ count) (part_long : length part ≡ count)
    (sound : AreSound version first inputs copies roles) (have : HaveRoles first inputs roles copies) (small : All AreSmall labels)
    (zeros : (i : ℕ) → i < length part → get_or part i 0 ≡ 0) (one : length depth ≡ 1) (depth_zeros : (i : ℕ) → i < length depth → get_or depth i 0 ≡ 0)
  where
    abbrev k : PlainCert
    k = record {
      version = version;
      original_inputs = first;
      hardened_inputs = inputs;
      depth = depth;
      part = part;
      copies = map three_ids copies;
      labels = labels;
      roles = roles;
    }

    -- a copy as the list has it
    copy_is : (x : ℕ) (c : CopyNo) → first ≤ x → x < first + length part → copy_of k x c ≡ copy_in copies (x - first) c
    copy_is x c low high = ap (λ (o : Option Three). three_or_input o x c) (slot_map_read three_ids first copies x [] low (omega (arith, high, copies_long, part_long)))

    -- what is sound of the role of a hardened net
    sound_at : (a : ℕ) (r : Role) → slot inputs roles a ≡ Some r → IsSound version first copies a r
    sound_at a r e =
        let w = slot_within inputs roles a r e in
        let here : inputs + (a - inputs) ≡ a = omega (arith, w.0) in
        subst (λ (z : ℕ). IsSound version first copies z r) here (sound (a - inputs) r (sym (slot_at inputs roles a w.0) ∙ e))

    in_range : (a : ℕ) (r : Role) → IsSound version first copies a r → RoleIsInRange k r
    in_range a (Copy x c) s = (s.0, omega (arith, s.1, copies_long, part_long))
    in_range a (Voter x p c) s = (s.0, omega (arith, s.1, copies_long, part_long), omega (arith, s.2, one))

    has_role : (x : ℕ) (c : CopyNo) → first ≤ x → x < first + length part → role_of k (copy_of k x c) ≡ Some (Copy (record { 0 = x }) c)
    has_role x c low high =
        let here : first + (x - first) ≡ x = omega (arith, low) in
        ap (slot inputs roles) (copy_is x c low high) ∙ (have (x - first) c (omega (arith, low, high, copies_long, part_long)) ∙ ap (λ (z : ℕ). Some (Copy (record { 0 = z }) c)) here)

    is_copy : (a x : ℕ) (c : CopyNo) → role_of k a ≡ Some (Copy (record { 0 = x }) c) → copy_of k x c ≡ a
    is_copy a x c e = let s = sound_at a (Copy (record { 0 = x }) c) e in copy_is x c s.0 (omega (arith, s.1, copies_long, part_long)) ∙ s.2

    pub bare_cert : IsCert k
    bare_cert = record {
      known_version = known;
      few_parts = omega (arith, one);
      few_original = omega (arith, few_first, part_long);
      few_hardened = omega (arith, few_inputs, roles_long);
      small_depths = All-from_get_or (λ d. d < 4294967296) depth 0 (λ i l. omega (arith, depth_zeros i l));
      small_labels = small;
      parts_in_range = All-from_get_or (λ p. p < length depth) part 0 (λ i l. omega (arith, zeros i l, one));
      copies_long = omega (arith, length-map copies three_ids, copies_long, part_long);
      labels_long = omega (arith, labels_long, part_long);
      roles_in_range = λ a r e. in_range a r (sound_at a r e);
      copies_have_roles = has_role;
      roles_are_copies = is_copy;
    }

-- the certificate with what is found
pub refined_cert : (n h : Net) (version : ℕ) (b : PlainCert) (bare : IsBare n h version b) (up : List ℕ) (readers : List (Option ℕ)) (depth part labels : List ℕ) (threes : List Three) (roles : List Role) → AreFound n h b up readers depth part labels threes roles → IsBare n h version (refined b depth part threes roles)
refined_cert n h version b bare up readers depth part labels threes roles found = record {
  versioned = bare.versioned;
  cert = record {
    known_version = bare.cert.known_version;
    few_parts = omega (arith, found.few);
    few_original = omega (arith, bare.cert.few_original, same);
    few_hardened = omega (arith, bare.cert.few_hardened, found.renumbered.long, bare.fits.hardened_nodes);
    small_depths = found.small_depths;
    small_labels = found.small;
    parts_in_range = All-from_get_or (λ p. p < length depth) part 0 found.numbered.below;
    copies_long = omega (arith, bare.cert.copies_long, same);
    labels_long = omega (arith, found.three.nodes, found.nodes);
    roles_in_range = in_range;
    copies_have_roles = λ x c low high. copy_after n h b bare.fits part readers roles found.renumbered _ x c (bare.cert.copies_have_roles x c low (omega (arith, high, same)));
    roles_are_copies = λ a x c e. bare.cert.roles_are_copies a x c (copy_before n h b bare.fits part readers roles found.renumbered a x c e);
  };
  fits = record {
    original_inputs = bare.fits.original_inputs;
    original_nodes = found.nodes;
    hardened_inputs = bare.fits.hardened_inputs;
    hardened_nodes = found.renumbered.long;
  };
}
  where
    same : length part ≡ length b.part
    same = found.nodes ∙ sym bare.fits.original_nodes

    in_range : (a : ℕ) (r : Role) → slot b.hardened_inputs roles a ≡ Some r → RoleIsInRange (refined b depth part threes roles) r
    in_range a (Copy x c) e =
        let s = bare.cert.roles_in_range a (Copy x c) (copy_before n h b bare.fits part readers roles found.renumbered a x.0 c e) in
        (s.0, omega (arith, s.1, same))
    in_range a (Voter x p c) e =
        let (q, before, read) = voter_before n h b bare.fits part readers roles found.renumbered a x.0 p.0 c e in
        let s = bare.cert.roles_in_range a (Voter x (record { 0 = q }) c) before in
        (s.0, omega (arith, s.1, same), omega (arith, read.part, found.numbered.below read.reader read.within))

-- a certificate with the same version, inputs and copies
pub same_cert : (k : PlainCert) (v i j : ℕ) (depth part : List ℕ) (copies labels : List Three) (roles : List Role) → v ≡ k.version → i ≡ k.original_inputs → j ≡ k.hardened_inputs → copies ≡ k.copies
    → record { version = v; original_inputs = i; hardened_inputs = j; depth = depth; part = part; copies = copies; labels = labels; roles = roles } ≡ refined k depth part labels roles
same_cert k v i j depth part copies labels roles ev ei ej ec =
    let K : ℕ → ℕ → ℕ → List Three → PlainCert = λ a b c d. record { version = a; original_inputs = b; hardened_inputs = c; depth = depth; part = part; copies = d; labels = labels; roles = roles } in
    let one : K v i j copies ≡ K k.version i j copies = ap (λ a. K a i j copies) ev in
    let two : K k.version i j copies ≡ K k.version k.original_inputs j copies = ap (λ a. K k.version a j copies) ei in
    let three : K k.version k.original_inputs j copies ≡ K k.version k.original_inputs k.hardened_inputs copies = ap (λ a. K k.version k.original_inputs a copies) ej in
    let four : K k.version k.original_inputs k.hardened_inputs copies ≡ K k.version k.original_inputs k.hardened_inputs k.copies = ap (K k.version k.original_inputs k.hardened_inputs) ec in
    one ∙ (two ∙ (three ∙ four))

-- what is found, list by list
pub found_of : (n h : Net) (k : PlainCert) (up up' : List ℕ) (readers readers' : List (Option ℕ)) (depth part part' part'' : List ℕ) (count : ℕ) (labels labels' : List ℕ) (threes : List Three) (roles : List Role)
    → up' ≡ up → readers' ≡ readers → part' ≡ part → part'' ≡ part → labels' ≡ labels → count ≡ length depth → count ≤ length up' → length n.nodes < 4294967295 → length part ≡ length up'
    → AreJoined n h k up readers → AreNumbered up' part count → length labels ≡ length h.nodes → AreBelow h k labels → AreLabels n h k labels' threes → All AreSmall threes
    → AreDepths part'' threes depth → All (λ d. d < 4294967296) depth → AreRenumbered h k part' readers' roles → AreFound n h k up readers depth part labels threes roles
found_of n h k up up' readers readers' depth part part' part'' count labels labels' threes roles eu er ep eq el ec few nodes long joined numbered labels_long below three small depths small_depths renumbered = record {
  joined = joined;
  nodes = long ∙ (ap length eu ∙ joined.nodes);
  few = omega (arith, ec, few, nodes, ap length eu, joined.nodes);
  numbered = subst (λ (u : List ℕ). AreNumbered u part (length depth)) eu (subst (AreNumbered up' part) ec numbered);
  long = labels_long;
  below = below;
  three = subst (λ (l : List ℕ). AreLabels n h k l threes) el three;
  small = small;
  depths = subst (λ (p : List ℕ). AreDepths p threes depth) eq depths;
  small_depths = small_depths;
  renumbered = subst (λ (p : List ℕ). AreRenumbered h k p readers roles) ep (subst (λ (r : List (Option ℕ)). AreRenumbered h k part' r roles) er renumbered);
}
