-- How an accepted certificate sorts nodes into partitions: by what the pins of copies read.
use Rattle.std.proofs.Common.{◌≡◌, ℕ, zero, suc, ◌+◌, ◌-◌, ◌<◌, ◌≤◌, Bool, List, [], ◌∷◌, length, get_or, Option, Some, None, refl, sym, ap, subst, ◌∙◌, arith}
use Rattle.tmr_base.specs.declared.copies.CopyNo.{CopyNo}
use Rattle.table_cover.specs.Cover.{PlainCover}
use Rattle.flat_net.specs.Net.{Net, Node, Table, Register, node_of, pins_at, IsValid}
use Rattle.flat_net.specs.Free.{node_bit}
use Rattle.flat_net.proofs.Slots.{slot_within, slot_there}
use Rattle.certificate.specs.declared.role.Role.{Role}
use Rattle.certificate.specs.declared.role.Role.TheVariants.{Copy, Voter}
use Rattle.certificate.specs.Cert.{PlainCert, IsCert, Fits, role_of, part_of}
use Rattle.certificate.specs.Reads.{Reads, RoleReads}
use Rattle.certificate.specs.Rules.{AllHold, Rule3, Rule4, CopiesTable, CopiesRegister, PinsRead}
use Rattle.certifying.specs.Finest.{SameRoles, role_place, place_of}
use Rattle.certifying.specs.Private.Forests.{KeepsJoins}

module _ (n : Net) (f : List Bool) (h : Net) (g : List Bool) (m : PlainCert) (valid_n : IsValid n) (valid_h : IsValid h) (cert : IsCert m) (fits : Fits n h m) (rules : AllHold n f h g m) where
  -- a pin of a copy reads an original net for the copy's own partition and number
  pub pin_reads : (a y p j : ℕ) (c : CopyNo) → role_of m a ≡ Some (Copy (record { 0 = y }) c) → part_of m y ≡ Some p → j < length (pins_at (node_of h a)) → (x : ℕ) × Reads m (get_or (pins_at (node_of h a)) j 0) x p c
  pin_reads a y p j c role part within = go (slot_there (length n.inputs) n.nodes y (omega (arith, there.0, fits.original_inputs)) (omega (arith, there.1, fits.original_inputs, fits.original_nodes)))
    where
      there : (m.original_inputs ≤ y) × (y < m.original_inputs + length m.part)
      there = slot_within m.original_inputs m.part y p part

      here : length h.inputs + (a - length h.inputs) ≡ a
      here = let w = slot_within m.hardened_inputs m.roles a (Copy (record { 0 = y }) c) role in omega (arith, w.0, fits.hardened_inputs)

      free : Bool
      free = node_bit (length n.inputs) f y

      copy_free : Bool
      copy_free = node_bit (length h.inputs) g a

      tables : CopiesTable m (node_of n y) (node_of h a) p c
      tables = subst (λ (z : ℕ). Rule3 n h m z) here ((rules 3 (a - length h.inputs)).tables refl) y c p role part

      registers : CopiesRegister m (node_of n y) free (node_of h a) copy_free p c
      registers = subst (λ (z : ℕ). Rule4 n f h g m z) here ((rules 4 (a - length h.inputs)).registers refl) y c p role part

      go : (node : Node) × (node_of n y ≡ Some node) → (x : ℕ) × Reads m (get_or (pins_at (node_of h a)) j 0) x p c
      go (node, e) = by node e (node_of h a) refl within
        where
          by : (node : Node) → node_of n y ≡ Some node → (o : Option Node) → node_of h a ≡ o → j < length (pins_at o) → (x : ℕ) × Reads m (get_or (pins_at o) j 0) x p c
          by node e None d l = absurd (omega arith)
          by (Table name cover pins) e (Some (Table hname hcover hpins)) d l =
              let rule : (hcover ≡ cover) × PinsRead m hpins pins p c = subst (λ o. CopiesTable m o (Some (Table hname hcover hpins)) p c) e (subst (λ o. CopiesTable m (node_of n y) o p c) d tables) in
              let long : length hpins ≡ length pins = (valid_h.unordered.wired a _ d).1 ∙ (ap (λ (w : PlainCover). w.width) rule.0 ∙ sym (valid_n.unordered.wired y _ e).1) in
              (get_or pins j 0, rule.1 j (omega (arith, long, l)))
          by (Table name cover pins) e (Some (Register hname hinit hpin)) d l = absurd (subst (λ o. CopiesTable m o (Some (Register hname hinit hpin)) p c) e (subst (λ o. CopiesTable m (node_of n y) o p c) d tables))
          by (Register name init pin) e (Some (Table hname hcover hpins)) d l = absurd (subst (λ o. CopiesRegister m o free (Some (Table hname hcover hpins)) copy_free p c) e (subst (λ o. CopiesRegister m (node_of n y) free o copy_free p c) d registers))
          by (Register name init pin) e (Some (Register hname hinit hpin)) d l =
              let rule : (hinit ≡ init) × (copy_free ≡ free) × Reads m hpin pin p c = subst (λ o. CopiesRegister m o free (Some (Register hname hinit hpin)) copy_free p c) e (subst (λ o. CopiesRegister m (node_of n y) free o copy_free p c) d registers) in
              one j l rule.2
            where
              one : (i : ℕ) → i < length (hpin ∷ []) → Reads m hpin pin p c → (x : ℕ) × Reads m (get_or (hpin ∷ []) i 0) x p c
              one zero l reads = (pin, reads)
              one (suc i) l reads = absurd (omega arith)

  -- original nodes by their partitions, and hardened ones by their places
  abbrev pub node_sort : ℕ → Option ℕ
  node_sort i = part_of m (length n.inputs + i)

  abbrev pub voter_sort : ℕ → Option ℕ
  voter_sort v = place_of m (length h.inputs + v)

  -- the partition of the original of a copy
  pub copy_part : (a y : ℕ) (c : CopyNo) → role_of m a ≡ Some (Copy (record { 0 = y }) c) → (p : ℕ) × (part_of m y ≡ Some p) × (length n.inputs ≤ y)
  copy_part a y c role =
      let range = cert.roles_in_range a (Copy (record { 0 = y }) c) role in
      let (p, part) = slot_there m.original_inputs m.part y range.0 range.1 in
      (p, part, omega (arith, range.0, fits.original_inputs))

  -- it keeps each join of a certificate with the same roles
  pub joins_kept : (b : PlainCert) → SameRoles b m → KeepsJoins n h b node_sort voter_sort
  joins_kept b same = record { copies = copies; voters = voters }
    where
      copies : (a y x j : ℕ) (c d : CopyNo) → role_of b a ≡ Some (Copy (record { 0 = y }) c) → j < length (pins_at (node_of h a)) → role_of b (get_or (pins_at (node_of h a)) j 0) ≡ Some (Copy (record { 0 = x }) d) → part_of m (length n.inputs + (x - length n.inputs)) ≡ part_of m (length n.inputs + (y - length n.inputs))
      copies a y x j c d role within read =
          let role' = same.copies a y c role in
          let (p, part, low) = copy_part a y c role' in
          let (z, reads) = pin_reads a y p j c role' part within in
          let read' = same.copies (get_or (pins_at (node_of h a)) j 0) x d read in
          let (q, part_x, low_x) = copy_part (get_or (pins_at (node_of h a)) j 0) x d read' in
          let r : (x ≡ z) × (d ≡ c) × (part_of m z ≡ Some p) = subst (λ (o : Option Role). RoleReads m o (get_or (pins_at (node_of h a)) j 0) z p c) read' reads in
          let at_x : length n.inputs + (x - length n.inputs) ≡ x = omega (arith, low_x) in
          let at_y : length n.inputs + (y - length n.inputs) ≡ y = omega (arith, low) in
          ap (part_of m) at_x ∙ (ap (part_of m) r.0 ∙ (r.2 ∙ (sym part ∙ ap (part_of m) (sym at_y))))

      voters : (a y x p j : ℕ) (c d : CopyNo) → role_of b a ≡ Some (Copy (record { 0 = y }) c) → j < length (pins_at (node_of h a)) → role_of b (get_or (pins_at (node_of h a)) j 0) ≡ Some (Voter (record { 0 = x }) (record { 0 = p }) d) → place_of m (length h.inputs + (get_or (pins_at (node_of h a)) j 0 - length h.inputs)) ≡ part_of m (length n.inputs + (y - length n.inputs))
      voters a y x p j c d role within read =
          let role' = same.copies a y c role in
          let (q, part, low) = copy_part a y c role' in
          let (z, reads) = pin_reads a y q j c role' part within in
          let (r, read') = same.voters (get_or (pins_at (node_of h a)) j 0) x p d read in
          let w = slot_within m.hardened_inputs m.roles (get_or (pins_at (node_of h a)) j 0) _ read' in
          let s : (x ≡ z) × (r ≡ q) × (d ≡ c) = subst (λ (o : Option Role). RoleReads m o (get_or (pins_at (node_of h a)) j 0) z q c) read' reads in
          let at : length h.inputs + (get_or (pins_at (node_of h a)) j 0 - length h.inputs) ≡ get_or (pins_at (node_of h a)) j 0 = omega (arith, w.0, fits.hardened_inputs) in
          let at_y : length n.inputs + (y - length n.inputs) ≡ y = omega (arith, low) in
          ap (place_of m) at ∙ (ap (role_place m) read' ∙ (ap (λ (v : ℕ). Some v) s.1 ∙ (sym part ∙ ap (part_of m) (sym at_y))))
