-- How long the lines of hardened nodes are: a copy's at most eight times those of its node, and a voter's at most twenty-six
-- times a blank and the name of its net.
use Rattle.std.proofs.Common.{◌≡◌, ℕ, suc, ◌+◌, ◌*◌, ◌<◌, ◌≤◌, List, [], ◌∷◌, length, Option, Some, None, refl, sym, ap, ◌∙◌, subst, arith}
use Rattle.std.specs.Prelude.{slice_index, Bool}
use Rattle.tmr_base.specs.declared.copies.CopyNo.{CopyNo}
use Rattle.tmr_base.specs.declared.copies.CopyNo.TheVariants.{First, Second, Third}
use Rattle.flat_net.specs.Net.{Net, Node, Table, Register, net_count, name_of, node_of, IsValid, IsCoverOf}
use Rattle.flat_net.specs.Free.{node_bit}
use Rattle.flat_net.proofs.Slots.{slot_there}
use Rattle.certificate.specs.declared.role.Role.TheVariants.{Copy, Voter}
use Rattle.certificate.specs.Cert.{PlainCert, IsCert, role_of, copy_of}
use Rattle.certificate.specs.Rules.{AllHold, CopiesTable, CopiesRegister, Votes}
use Rattle.library_faults.specs.FlatText.{spaced}
use Rattle.blif_writer.specs.Length.{node_length}
use Rattle.blif_writer.proofs.Growth.{IsGrown, ClockGrown, NodeGrown, PinsGrown, copy_lines, voter_lines}
use Rattle.blif_writer.proofs.NodeLines.{name_is}
use Rattle.triplicate.specs.Form.{IsTripled, majority_cover}
use Rattle.hardened_size.proofs.Named.{clock_grows, copy_long, voter_name_grown, copy_name_grown, read_name_grown}

-- the length of a node's lines; an input has none
abbrev pub length_at : Net → Option Node → ℕ
length_at n None = 0
length_at n (Some node) = node_length n node

-- a blank and the name of a net
abbrev pub name_length : Net → ℕ → ℕ
name_length n x = spaced (name_of n x)

-- pins, one for one
pins_grow : (n h : Net) (xs gs : List ℕ) → length gs ≡ length xs → ((j : ℕ) → j < length xs → IsGrown (name_of n (slice_index xs j)) (name_of h (slice_index gs j))) → PinsGrown n h xs gs
pins_grow n h [] [] long each = tt
pins_grow n h [] (g ∷ gs) long each = absurd (omega (arith, long))
pins_grow n h (x ∷ xs) [] long each = absurd (omega (arith, long))
pins_grow n h (x ∷ xs) (g ∷ gs) long each = (each 0 (omega arith), pins_grow n h xs gs (omega (arith, long)) (λ j l. each (suc j) (omega (arith, l))))

module _ (n h : Net) (f g : List Bool) (k : PlainCert) (valid : IsValid n) (hardened_valid : IsValid h) (cert : IsCert k) (is : IsTripled n h k) (holds : AllHold n f h g k) where
  clock_grown : ClockGrown n.clock h.clock
  clock_grown = subst (ClockGrown n.clock) (sym is.clock) (clock_grows n n.clock valid.unordered.clock)

  -- a copy has its node's kind and cover, and reads what the node reads, each with a grown name
  copy_grows : (x y p : ℕ) (c : CopyNo) (free hfree : Bool) (node copy : Node) → IsGrown (name_of n x) (name_of h y) → node_of n x ≡ Some node → node_of h y ≡ Some copy
      → CopiesTable k (Some node) (Some copy) p c → CopiesRegister k (Some node) free (Some copy) hfree p c → NodeGrown n h node copy
  copy_grows x y p c free hfree (Table name cover pins) (Table hname hcover hpins) grown e he table register =
      let wired = valid.unordered.wired x (Table name cover pins) e in
      let hwired = hardened_valid.unordered.wired y (Table hname hcover hpins) he in
      let own = subst (λ (w : List ℕ). IsGrown w (name_of h y)) (name_is n x (Table name cover pins) e) grown in (
        subst (IsGrown name) (name_is h y (Table hname hcover hpins) he) own,
        table.0,
        pins_grow n h pins hpins (hwired.1 ∙ (ap (λ cover. cover.width) table.0 ∙ sym wired.1))
            (λ j l. read_name_grown n h k valid cert is (slice_index hpins j) (slice_index pins j) p c (wired.0 j 0 l) (table.1 j l)),
      )
  copy_grows x y p c free hfree (Table name cover pins) (Register hname hinit hpin) grown e he table register = absurd table
  copy_grows x y p c free hfree (Register name init pin) (Table hname hcover hpins) grown e he table register = absurd register
  copy_grows x y p c free hfree (Register name init pin) (Register hname hinit hpin) grown e he table register =
      let wired = valid.unordered.wired x (Register name init pin) e in
      let own = subst (λ (w : List ℕ). IsGrown w (name_of h y)) (name_is n x (Register name init pin) e) grown in
      (subst (IsGrown name) (name_is h y (Register hname hinit hpin) he) own, read_name_grown n h k valid cert is hpin pin p c wired register.2)

  -- the lines of a copy
  pub copy_line : (j x : ℕ) (c : CopyNo) (copy : Node) → role_of k (length h.inputs + j) ≡ Some (Copy (record { 0 = x }) c) → node_of h (length h.inputs + j) ≡ Some copy → node_length h copy ≤ 8 * length_at n (node_of n x)
  copy_line j x c copy role he =
      let y : ℕ = length h.inputs + j in
      let range = cert.roles_in_range y (Copy (record { 0 = x }) c) role in
      let low : length n.inputs ≤ x = omega (arith, is.fits.original_inputs, range.0) in
      let high : x < net_count n = omega (arith, is.fits.original_inputs, is.fits.original_nodes, range.1) in
      let (node, e) = slot_there (length n.inputs) n.nodes x low high in
      let (p, part) = slot_there k.original_inputs k.part x range.0 range.1 in
      let free = node_bit (length n.inputs) f x in
      let hfree = node_bit (length h.inputs) g y in
      let table = (holds 3 j).tables refl x c p role part in
      let register = (holds 4 j).registers refl x c p role part in
      let tables : CopiesTable k (Some node) (Some copy) p c = subst (λ (o : Option Node). CopiesTable k o (Some copy) p c) e (subst (λ (o : Option Node). CopiesTable k (node_of n x) o p c) he table) in
      let registers : CopiesRegister k (Some node) free (Some copy) hfree p c = subst (λ (o : Option Node). CopiesRegister k o free (Some copy) hfree p c) e (subst (λ (o : Option Node). CopiesRegister k (node_of n x) free o hfree p c) he register) in
      let short = copy_lines n h node copy clock_grown (copy_grows x y p c free hfree node copy (copy_name_grown n h k valid cert is y x c high role) e he tables registers) in
      omega (arith, short, ap (length_at n) e)

  -- the lines of a table that votes
  voter_table : (x y : ℕ) (copy : Node) → x < net_count n → IsGrown (name_of n x) (name_of h y) → node_of h y ≡ Some copy → IsCoverOf (Some copy) majority_cover → Votes k (Some copy) x → node_length h copy ≤ 26 * name_length n x
  voter_table x y (Table name cover pins) high grown he is_cover votes =
      let own = subst (IsGrown (name_of n x)) (name_is h y (Table name cover pins) he) grown in
      let short = voter_lines h (name_of n x) name cover (copy_of k x First) (copy_of k x Second) (copy_of k x Third) own (ap (λ cover. cover.width) is_cover) (ap (λ cover. length cover.rows) is_cover)
      (copy_long n h k valid cert is x First high) (copy_long n h k valid cert is x Second high) (copy_long n h k valid cert is x Third high) in
      subst (λ (ps : List ℕ). node_length h (Table name cover ps) ≤ 26 * name_length n x) (sym votes.0) short
  voter_table x y (Register name init pin) high grown he is_cover votes = absurd votes

  pub voter_line : (j x p : ℕ) (c : CopyNo) (copy : Node) → role_of k (length h.inputs + j) ≡ Some (Voter (record { 0 = x }) (record { 0 = p }) c) → node_of h (length h.inputs + j) ≡ Some copy → node_length h copy ≤ 26 * name_length n x
  voter_line j x p c copy role he =
      let y : ℕ = length h.inputs + j in
      let range = cert.roles_in_range y (Voter (record { 0 = x }) (record { 0 = p }) c) role in
      let high : x < net_count n = omega (arith, is.fits.original_inputs, is.fits.original_nodes, range.1) in
      let votes = (holds 5 j).voters refl x p c role in
      let covered = is.voters y x p c role in
      voter_table x y copy high (voter_name_grown n h k valid cert is y x p c high role) he (subst (λ (o : Option Node). IsCoverOf o majority_cover) he covered) (subst (λ (o : Option Node). Votes k o x) he votes)
