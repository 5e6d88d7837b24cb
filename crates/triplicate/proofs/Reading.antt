-- What the pins of the hardened design read.
use Rattle.std.proofs.Common.{◌≡◌, ℕ, ◌+◌, ◌-◌, ◌*◌, ◌<◌, ◌≤◌, ◌⊎◌, inl, inr, List, [], ◌∷◌, length, Option, Some, None, refl, sym, ap, ◌∙◌, subst, arith, Bool, true, false, if◌then◌else◌}
use Rattle.std.specs.Prelude.{slice_index}
use Rattle.std.proofs.lemmas.Bool.{cases_lt, cases_eq, false≢true}
use Rattle.tmr_base.specs.declared.copies.CopyNo.{CopyNo}
use Rattle.tmr_base.specs.Copies.{copy_number}
use Rattle.tmr_base.specs.Parts.{PlainParts}
use Rattle.flat_net.specs.Net.{Net, Node, Table, Register, net_count, node_of, pins_at}
use Rattle.certificate.specs.declared.role.Role.{Role}
use Rattle.certificate.specs.declared.role.Role.TheVariants.{Copy, Voter}
use Rattle.certificate.specs.Cert.{role_of}
use Rattle.certificate.specs.Reads.{Reads, RoleReads}
use Rattle.feedback_cut.specs.Inner.{node_pins}
use Rattle.triplicate.specs.Labels.{Labeling}
use Rattle.triplicate.specs.Form.{version_of}
use Rattle.triplicate.specs.Voting.{ReadsNet}
use Rattle.triplicate.specs.Numbers.{copy_net, voter_net}
use Rattle.triplicate.specs.Construction.{pin_net, hardened_cert}
use Rattle.triplicate.specs.Given.{IsGiven}
use Rattle.triplicate.proofs.Numbering.{copy_net_input}
use Rattle.triplicate.proofs.Tripled.{needs_from_pin, role_of_copy, role_of_input_copy, role_of_voter, part_at_node}
use Rattle.triplicate.proofs.Lists.{copy_number_few}

module _ (n : Net) (parts : PlainParts) (voted : ℕ → ℕ → Bool) (t : Labeling) (is : IsGiven n parts voted t) where
  -- what a pin reads is a net
  pub read_in_range : (y j x : ℕ) → ReadsNet n y j x → x < net_count n
  read_in_range y j x reads = go (node_of n (length n.inputs + y)) refl
    where
      go : (o : Option Node) → node_of n (length n.inputs + y) ≡ o → x < net_count n
      go None e = absurd (let none : length (node_pins n y) ≡ 0 = ap (λ (m : Option Node). length (pins_at m)) e in omega (arith, none, reads.pin))
      go (Some (Table name cover pins)) e =
          let wired = is.valid.unordered.wired (length n.inputs + y) (Table name cover pins) e in
          let same : node_pins n y ≡ pins = ap pins_at e in
          let within : j < length pins = omega (arith, reads.pin, ap length same) in
          subst (λ k. k < net_count n) (sym (ap (λ (xs : List ℕ). slice_index xs j) same) ∙ reads.is) (wired.0 j 0 within)
      go (Some (Register name init pin)) e =
          let wired = is.valid.unordered.wired (length n.inputs + y) (Register name init pin) e in
          let same : node_pins n y ≡ pin ∷ [] = ap pins_at e in
          let first : j ≡ 0 = omega (arith, reads.pin, ap length same) in
          subst (λ k. k < net_count n) (sym (ap (slice_index (pin ∷ [])) first) ∙ (sym (ap (λ (xs : List ℕ). slice_index xs j) same) ∙ reads.is)) wired

  -- a pin that is not voted reads within its partition
  pub read_together : (y j x : ℕ) → ReadsNet n y j (length n.inputs + x) → voted y j ≡ false → slice_index parts.of x ≡ slice_index parts.of y
  read_together y j x reads v = go (cases_eq (slice_index parts.of x) (slice_index parts.of y))
    where
      go : (slice_index parts.of x ≡ slice_index parts.of y) ⊎ (slice_index parts.of x ≡ slice_index parts.of y → ⊥) → slice_index parts.of x ≡ slice_index parts.of y
      go (inl e) = e
      go (inr ne) = absurd (false≢true (sym v ∙ is.votes.foreign y j x reads ne))

  pub part_below : (y : ℕ) → y < length n.nodes → slice_index parts.of y < parts.count
  part_below y h = is.in_range.in_range y 0 (omega (arith, is.parts_long))

  -- a voted pin reads a voter
  pub voted_role : (y j x : ℕ) (c : CopyNo) → y < length n.nodes → ReadsNet n y j x → voted y j ≡ true → role_of (hardened_cert n parts voted t) (pin_net n parts voted y c j x) ≡ Some (Voter (record { 0 = x }) (record { 0 = slice_index parts.of y }) c)
  voted_role y j x c h reads v =
      ap (λ b. role_of (hardened_cert n parts voted t) (if b then voter_net n parts voted x (slice_index parts.of y) c else copy_net n parts voted x c)) v
      ∙ role_of_voter n parts voted t x (slice_index parts.of y) c (read_in_range y j x reads) (part_below y h) (needs_from_pin n parts voted y j x h reads v)

  -- one that is not voted reads a copy
  pub unvoted_role : (y j x : ℕ) (c : CopyNo) → ReadsNet n y j x → length n.inputs ≤ x → voted y j ≡ false → role_of (hardened_cert n parts voted t) (pin_net n parts voted y c j x) ≡ Some (Copy (record { 0 = x }) c)
  unvoted_role y j x c reads low v =
      ap (λ b. role_of (hardened_cert n parts voted t) (if b then voter_net n parts voted x (slice_index parts.of y) c else copy_net n parts voted x c)) v
      ∙ role_of_copy n parts voted t x c low (read_in_range y j x reads)

  -- or an input
  pub input_role : (y j x : ℕ) (c : CopyNo) → x < length n.inputs → voted y j ≡ false → role_of (hardened_cert n parts voted t) (pin_net n parts voted y c j x) ≡ None
  input_role y j x c low v =
      ap (λ b. role_of (hardened_cert n parts voted t) (if b then voter_net n parts voted x (slice_index parts.of y) c else copy_net n parts voted x c)) v
      ∙ role_of_input_copy n parts voted t x c low

  -- each pin reads the original's pin, for its reader's partition and copy
  pub pin_reads : (y j x : ℕ) (c : CopyNo) → y < length n.nodes → ReadsNet n y j x → Reads (hardened_cert n parts voted t) (pin_net n parts voted y c j x) x (slice_index parts.of y) c
  unfolding hardened_cert
  pin_reads y j x c h reads = go (voted y j) refl (cases_lt x (length n.inputs))
    where
      go : (b : Bool) → voted y j ≡ b → (x < length n.inputs) ⊎ (length n.inputs ≤ x) → Reads (hardened_cert n parts voted t) (pin_net n parts voted y c j x) x (slice_index parts.of y) c
      go true v any = subst (λ (o : Option Role). RoleReads (hardened_cert n parts voted t) o (pin_net n parts voted y c j x) x (slice_index parts.of y) c) (sym (voted_role y j x c h reads v)) (refl, refl, refl)
      go false v (inl low) =
          let number : pin_net n parts voted y c j x ≡ 3 * x + copy_number c = ap (λ (b : Bool). if b then voter_net n parts voted x (slice_index parts.of y) c else copy_net n parts voted x c) v ∙ copy_net_input n parts voted x c low in
          subst (λ (o : Option Role). RoleReads (hardened_cert n parts voted t) o (pin_net n parts voted y c j x) x (slice_index parts.of y) c) (sym (input_role y j x c low v)) (ap version_of (sym (is.votes.at_inputs y j x reads low) ∙ v), (low, omega (arith, number, low, copy_number_few c), number))
      go false v (inr low) =
          let same : x ≡ length n.inputs + (x - length n.inputs) = omega arith in
          let together = read_together y j (x - length n.inputs) (record { pin = reads.pin; is = reads.is ∙ same }) v in
          subst (λ (o : Option Role). RoleReads (hardened_cert n parts voted t) o (pin_net n parts voted y c j x) x (slice_index parts.of y) c) (sym (unvoted_role y j x c reads low v)) (refl, refl, part_at_node n parts voted t is.parts_long x low (read_in_range y j x reads) ∙ ap Some together)
