-- Roles with the numbers of their partitions, beside those without.
use Rattle.std.proofs.Common.{◌≡◌, ℕ, ◌+◌, ◌-◌, ◌<◌, List, length, get_or, slice_get, Option, Some, sym, ap, ◌∙◌, arith}
use Rattle.tmr_base.specs.declared.copies.CopyNo.{CopyNo}
use Rattle.tmr_base.specs.declared.ids.NetId.{NetId}
use Rattle.tmr_base.specs.declared.ids.PartId.{PartId}
use Rattle.flat_net.specs.Net.{Net, slot}
use Rattle.flat_net.proofs.Slots.{slot_at, slot_within, slot_there}
use Rattle.certificate.specs.declared.role.Role.{Role}
use Rattle.certificate.specs.declared.role.Role.TheVariants.{Copy, Voter}
use Rattle.certificate.specs.Cert.{PlainCert, Fits, role_of}
use Rattle.certifying.specs.Private.Renumbered.{IsRenumbered, AreRenumbered}

-- the parts of a voter
voter_net : (x y : NetId) (p q : PartId) (c d : CopyNo) → Voter x p c ≡ Voter y q d → x ≡ y
voter_net x y p q c d e = cc

voter_part : (x y : NetId) (p q : PartId) (c d : CopyNo) → Voter x p c ≡ Voter y q d → p ≡ q
voter_part x y p q c d e = cc

voter_copy : (x y : NetId) (p q : PartId) (c d : CopyNo) → Voter x p c ≡ Voter y q d → c ≡ d
voter_copy x y p q c d e = cc

-- a voter's reader
pub record IsRead (numbers : List ℕ) (readers : List (Option ℕ)) (v p : ℕ) : Type 0 where
  pub reader : ℕ
  pub reads : slice_get readers v ≡ Some (Some reader)
  pub within : reader < length numbers
  pub part : p ≡ get_or numbers reader 0

module _ (n h : Net) (b : PlainCert) (fits : Fits n h b) (numbers : List ℕ) (readers : List (Option ℕ)) (roles : List Role) (are : AreRenumbered h b numbers readers roles) where
  -- both roles of a hardened node
  record Both (g : ℕ) (before after : Role) : Type 0 where
    from : slot b.hardened_inputs b.roles g ≡ Some before
    to : slot b.hardened_inputs roles g ≡ Some after
    is : IsRenumbered numbers readers (g - length h.inputs) before after

  both : (g : ℕ) (before after : Role) → slot b.hardened_inputs b.roles g ≡ Some before → slot b.hardened_inputs roles g ≡ Some after → Both g before after
  both g before after e a =
      let w = slot_within b.hardened_inputs b.roles g before e in
      let here : length h.inputs + (g - length h.inputs) ≡ g = omega (arith, w.0, fits.hardened_inputs) in
      let own : role_of b (length h.inputs + (g - length h.inputs)) ≡ Some before = ap (role_of b) here ∙ e in
      let at : slice_get roles (g - length h.inputs) ≡ Some after = ap (λ (s : ℕ). slice_get roles (g - s)) (sym fits.hardened_inputs) ∙ (sym (slot_at b.hardened_inputs roles g w.0) ∙ a) in
      record { from = e; to = a; is = are.each (g - length h.inputs) before after own at }

  -- what has a role before has one after, and the reverse
  after_of : (g : ℕ) (before : Role) → slot b.hardened_inputs b.roles g ≡ Some before → (after : Role) × Both g before after
  after_of g before e =
      let w = slot_within b.hardened_inputs b.roles g before e in
      let (after, a) = slot_there b.hardened_inputs roles g w.0 (omega (arith, w.1, are.long, fits.hardened_nodes)) in
      (after, both g before after e a)

  before_of : (g : ℕ) (after : Role) → slot b.hardened_inputs roles g ≡ Some after → (before : Role) × Both g before after
  before_of g after a =
      let w = slot_within b.hardened_inputs roles g after a in
      let (before, e) = slot_there b.hardened_inputs b.roles g w.0 (omega (arith, w.1, are.long, fits.hardened_nodes)) in
      (before, both g before after e a)

  pub copy_after : (g : ℕ) (x : ℕ) (c : CopyNo) → slot b.hardened_inputs b.roles g ≡ Some (Copy (record { 0 = x }) c) → slot b.hardened_inputs roles g ≡ Some (Copy (record { 0 = x }) c)
  copy_after g x c e = let (after, two) = after_of g (Copy (record { 0 = x }) c) e in two.to ∙ ap (λ (r : Role). Some r) two.is

  pub voter_after : (g x p : ℕ) (c : CopyNo) → slot b.hardened_inputs b.roles g ≡ Some (Voter (record { 0 = x }) (record { 0 = p }) c) → (q : ℕ) × (slot b.hardened_inputs roles g ≡ Some (Voter (record { 0 = x }) (record { 0 = q }) c))
  voter_after g x p c e =
      let (after, two) = after_of g (Voter (record { 0 = x }) (record { 0 = p }) c) e in
      let (y, reads, within, is) = two.is in
      (get_or numbers y 0, two.to ∙ ap (λ (r : Role). Some r) is)

  pub copy_before : (g : ℕ) (x : ℕ) (c : CopyNo) → slot b.hardened_inputs roles g ≡ Some (Copy (record { 0 = x }) c) → slot b.hardened_inputs b.roles g ≡ Some (Copy (record { 0 = x }) c)
  copy_before g x c a = go (before_of g (Copy (record { 0 = x }) c) a)
    where
      go : (before : Role) × Both g before (Copy (record { 0 = x }) c) → slot b.hardened_inputs b.roles g ≡ Some (Copy (record { 0 = x }) c)
      go (Copy y d, two) = two.from ∙ ap (λ (r : Role). Some r) (sym two.is)
      go (Voter y p d, two) = let (z, reads, within, is) = two.is in let wrong : Copy (record { 0 = x }) c ≡ Voter y (record { 0 = get_or numbers z 0 }) d = is in absurd (cc)

  -- the role of a voter before, and its reader
  pub voter_before : (g x p : ℕ) (c : CopyNo) → slot b.hardened_inputs roles g ≡ Some (Voter (record { 0 = x }) (record { 0 = p }) c)
      → (q : ℕ) × (slot b.hardened_inputs b.roles g ≡ Some (Voter (record { 0 = x }) (record { 0 = q }) c)) × IsRead numbers readers (g - length h.inputs) p
  voter_before g x p c a = go (before_of g (Voter (record { 0 = x }) (record { 0 = p }) c) a)
    where
      go : (before : Role) × Both g before (Voter (record { 0 = x }) (record { 0 = p }) c) → (q : ℕ) × (slot b.hardened_inputs b.roles g ≡ Some (Voter (record { 0 = x }) (record { 0 = q }) c)) × IsRead numbers readers (g - length h.inputs) p
      go (Copy y d, two) = let wrong : Voter (record { 0 = x }) (record { 0 = p }) c ≡ Copy y d = two.is in absurd (cc)
      go (Voter y q d, two) =
          let (z, reads, within, is) = two.is in
          let same : Voter (record { 0 = x }) (record { 0 = p }) c ≡ Voter y (record { 0 = get_or numbers z 0 }) d = is in
          let x' : NetId = record { 0 = x } in
          let p' : PartId = record { 0 = p } in
          let z' : PartId = record { 0 = get_or numbers z 0 } in
          let net : y ≡ x' = voter_net y x' z' p' d c (sym same) in
          let number : p' ≡ z' = voter_part x' y p' z' c d same in
          let copy : d ≡ c = voter_copy y x' z' p' d c (sym same) in
          (q.0, two.from ∙ (ap (λ (t : NetId). Some (Voter t q d)) net ∙ ap (λ (t : CopyNo). Some (Voter x' q t)) copy), record { reader = z; reads = reads; within = within; part = ap (λ (t : PartId). t.0) number })
