-- The text of a hardened design's certificate has at most 128 times the bytes of the original's flat text.
use Rattle.std.proofs.Common.{◌≡◌, ℕ, zero, suc, ◌+◌, ◌*◌, ◌^◌, ◌<◌, ◌≤◌, ◌⊎◌, inl, inr, List, length, slice_get, get_or, Some, refl, sym, ap, ◌∙◌, subst, arith}
use Rattle.std.specs.Prelude.{slice_index}
use Rattle.std.specs.List.{sum_by, range_with_len}
use Rattle.std.specs.Int.{div_ceil}
use Rattle.tmr_base.specs.declared.copies.CopyNo.{CopyNo}
use Rattle.tmr_base.specs.declared.copies.CopyNo.TheVariants.{First, Second, Third}
use Rattle.tmr_base.specs.Copies.{of_copy}
use Rattle.flat_net.specs.Net.{Net, Node, Table, Register, net_count, name_of, node_name, all_pins, IsValid}
use Rattle.flat_net.proofs.Slots.{slot_within}
use Rattle.library_faults.specs.FlatText.{spaced}
use Rattle.certificate.specs.declared.role.Role.{Role}
use Rattle.certificate.specs.declared.role.Role.TheVariants.{Copy, Voter}
use Rattle.certificate.specs.Cert.{PlainCert, IsCert, role_of, label_of}
use Rattle.certificate.specs.Length.{digits, part_length, role_length, cert_length, node_length as line_length}
use Rattle.certificate.proofs.Filling.{no_three}
use Rattle.certificate.proofs.Lefts.{label_at, role_there}
use Rattle.certificate.proofs.Growth.{part_line_short, node_line_short, voter_line_short}
use Rattle.blif_writer.specs.Length.{node_length, flat_length}
use Rattle.blif_writer.proofs.Growth.{few_digits}
use Rattle.blif_writer.proofs.NodeLines.{name_is}
use Rattle.partitioner.specs.Sizes.{plain_parts}
use Rattle.partitioner.specs.Refining.{moves, refined}
use Rattle.triplicate.specs.declared.form.Form.{Form}
use Rattle.triplicate.specs.declared.form.Form.TheVariants.{Plain, Lean}
use Rattle.triplicate.specs.Choices.{ArePartsOf}
use Rattle.tmr_base.specs.Parts.{PlainParts}
use Rattle.triplicate.specs.Form.{IsTripled, parts_of, is_voted}
use Rattle.hardened_size.proofs.Sums.{sum_none, sum_of_same, sum_times, sum_in_row, sum_by_number}
use Rattle.hardened_size.proofs.Readers.{node_there}
use Rattle.hardened_size.proofs.Roles.{charge, roles_charged}
use Rattle.hardened_size.proofs.Named.{some_name, copy_long, voter_name_grown}
use Rattle.hardened_size.proofs.Lines.{name_length}
use Rattle.hardened_size.proofs.DesignText.{all_pins_within}

-- ---- there are no more partitions than nodes

moves_keep_count : (n : Net) (size : ℕ) (parts : PlainParts) (i : ℕ) → (moves n size parts i).count ≡ parts.count
unfolding moves
moves_keep_count n size parts zero = refl
moves_keep_count n size parts (suc i) = moves_keep_count n size parts i

refined_keeps_count : (n : Net) (size : ℕ) (parts : PlainParts) (i : ℕ) → (refined n size parts i).count ≡ parts.count
unfolding refined
refined_keeps_count n size parts zero = refl
refined_keeps_count n size parts (suc i) = moves_keep_count n size (refined n size parts i) (length n.nodes) ∙ refined_keeps_count n size parts i

rounded_up : (m size : ℕ) → 0 < size → div_ceil m size ≤ m
rounded_up m size pos = grind (arith)

-- neither form has more partitions than the size asks for
parts_count : (kind : Form) (n : Net) (size : ℕ) (parts : PlainParts) → ArePartsOf kind n size parts → parts.count ≤ div_ceil (length n.nodes) size
parts_count Plain n size parts e = omega (arith, ap (λ (p : PlainParts). p.count) e ∙ refined_keeps_count n size (plain_parts n size) 8)
parts_count Lean n size parts e = e.keeps.count

few_parts : (kind : Form) (n : Net) (k : PlainCert) (size : ℕ) → 0 < size → ArePartsOf kind n size (parts_of k) → length k.depth ≤ length n.nodes
few_parts kind n k size pos e = omega (arith, parts_count kind n size (parts_of k) e, rounded_up (length n.nodes) size pos)

-- ---- lines

-- the line of a node has nine bytes or more
node_some : (n : Net) (node : Node) → 0 < length (node_name node) → 9 ≤ node_length n node
node_some n (Table name cover pins) some = omega (arith, some)
node_some n (Register name init pin) some = omega (arith, some)

named_within : (n : Net) (node : Node) → spaced (node_name node) ≤ node_length n node
named_within n (Table name cover pins) = omega arith
named_within n (Register name init pin) = omega arith

nodes_some : (n : Net) → IsValid n → 9 * length n.nodes ≤ sum_by (node_length n) n.nodes
nodes_some n valid = omega (arith, sum_by_number (node_length n) (λ x. 9) (length n.inputs) n.nodes each, sum_of_same 9 (length n.inputs) (length n.nodes))
  where
    each : (i : ℕ) (node : Node) → slice_get n.nodes i ≡ Some node → 9 ≤ node_length n node
    each i node e =
        let there = node_there n i node e in
        let range = slot_within (length n.inputs) n.nodes (length n.inputs + i) node there in
        node_some n node (subst (λ (w : List ℕ). 0 < length w) (name_is n (length n.inputs + i) node there) (some_name n (length n.inputs + i) valid range.1))

module _ (n h : Net) (k : PlainCert) (valid : IsValid n) (cert : IsCert k) (is : IsTripled n h k) where
  part_short : (p : ℕ) → p < length k.depth → part_length k p ≤ 33
  part_short p l = part_line_short k p (omega (arith, l, cert.few_parts)) (omega (arith, cert.small_depths p 0 l))

  parts_short : sum_by (part_length k) (range_with_len 0 (length k.depth)) ≤ 33 * length k.depth
  parts_short = omega (arith, sum_in_row (part_length k) (λ p. 33) 0 (length k.depth) (λ p low high. part_short p (omega (arith, high))), sum_of_same 33 0 (length k.depth))

  label_small : (i : ℕ) (c : CopyNo) → i < length k.part → label_of k (k.original_inputs + i) c < 4294967296
  label_small i c l =
      let within : i < length k.labels = omega (arith, cert.labels_long, l) in
      subst (λ (e : ℕ). e < 4294967296) (sym (label_at k i c within)) (go c (cert.small_labels i no_three within))
    where
      go : (c : CopyNo) → (of_copy (get_or k.labels i no_three) First < 2 ^ 32) × (of_copy (get_or k.labels i no_three) Second < 2 ^ 32) × (of_copy (get_or k.labels i no_three) Third < 2 ^ 32) → of_copy (get_or k.labels i no_three) c < 4294967296
      go First small = omega (arith, small.0)
      go Second small = omega (arith, small.1)
      go Third small = omega (arith, small.2)

  -- the line of a node
  node_short : (i : ℕ) (node : Node) → slice_get n.nodes i ≡ Some node → line_length n h k (0 + i) ≤ 32 * node_length n node
  node_short i node e =
      let start : 0 + i ≡ i = omega arith in
      let there = node_there n i node e in
      let range = slot_within (length n.inputs) n.nodes (length n.inputs + i) node there in
      let within : i < length k.part = omega (arith, is.fits.original_nodes, range.1) in
      let place : k.original_inputs + i ≡ length n.inputs + i = omega (arith, is.fits.original_inputs) in
      let high : k.original_inputs + i < net_count n = omega (arith, is.fits.original_inputs, range.1) in
      let named : length (name_of n (k.original_inputs + i)) ≡ length (node_name node) = ap (λ y. length (name_of n y)) place ∙ ap length (name_is n (length n.inputs + i) node there) in
      let part : slice_index k.part i < 4294967296 = omega (arith, cert.parts_in_range i 0 within, cert.few_parts) in
      let short = node_line_short n h k i part (λ c. label_small i c within) (some_name n (k.original_inputs + i) valid high) (λ c. copy_long n h k valid cert is (k.original_inputs + i) c high) in
      omega (arith, short, named, named_within n node, ap (line_length n h k) start)

  -- the line of a voter; a copy has none of its own
  role_short : (j : ℕ) (r : Role) → slice_get k.roles j ≡ Some r → role_length n h (k.hardened_inputs + (0 + j)) (role_of k (k.hardened_inputs + (0 + j))) ≤ charge (λ x. 0) (λ x. 18 * name_length n x) r
  role_short j r e =
      let start : 0 + j ≡ j = omega arith in
      let role = role_there k j r e in
      omega (arith, ap (λ (i : ℕ). role_length n h (k.hardened_inputs + i) (role_of k (k.hardened_inputs + i))) start, ap (role_length n h (k.hardened_inputs + j)) role, go r role)
    where
      go : (r : Role) → role_of k (k.hardened_inputs + j) ≡ Some r → role_length n h (k.hardened_inputs + j) (Some r) ≤ charge (λ x. 0) (λ x. 18 * name_length n x) r
      go (Copy x c) role = omega arith
      go (Voter x p c) role =
          let range = cert.roles_in_range (k.hardened_inputs + j) (Voter x p c) role in
          let high : x.0 < net_count n = omega (arith, is.fits.original_inputs, is.fits.original_nodes, range.1) in
          voter_line_short n h (k.hardened_inputs + j) x.0 p.0 c (omega (arith, range.2, cert.few_parts)) (some_name n x.0 valid high) (voter_name_grown n h k valid cert is (k.hardened_inputs + j) x.0 p.0 c high role).few

  version_short : digits k.version ≤ 10
  version_short = few_digits k.version (go cert.known_version)
    where
      go : (k.version ≡ 1) ⊎ (k.version ≡ 2) → k.version < 4294967296
      go (inl e) = omega (arith, e)
      go (inr e) = omega (arith, e)

  pub cert_long : (kind : Form) (size : ℕ) → 0 < size → ArePartsOf kind n size (parts_of k) → cert_length n h k ≤ 128 * flat_length n
  unfolding flat_length
  cert_long kind size pos parts =
      let b : ℕ → ℕ = λ x. 18 * name_length n x in
      let none : ℕ → ℕ = λ x. 0 in
      let nodes : sum_by (line_length n h k) (range_with_len 0 (length k.part)) ≤ sum_by (λ node. 32 * node_length n node) n.nodes = subst (λ (m : ℕ). sum_by (line_length n h k) (range_with_len 0 m) ≤ sum_by (λ node. 32 * node_length n node) n.nodes) (sym is.fits.original_nodes) (sum_by_number (λ node. 32 * node_length n node) (line_length n h k) 0 n.nodes node_short) in
      let voters = sum_by_number (charge none b) (λ j. role_length n h (k.hardened_inputs + j) (role_of k (k.hardened_inputs + j))) 0 k.roles role_short in
      let roles = ap (sum_by (charge none b)) is.roles in
      omega (
        arith,
        version_short,
        few_digits (length k.depth) (omega (arith, cert.few_parts)),
        parts_short,
        few_parts kind n k size pos parts,
        nodes_some n valid,
        nodes,
        sum_times 32 (node_length n) n.nodes,
        voters,
        roles,
        roles_charged n (parts_of k) (is_voted n h k) none b,
        sum_none (range_with_len (length n.inputs) (length n.nodes)),
        sum_times 18 (name_length n) (all_pins n),
        all_pins_within n,
      )
