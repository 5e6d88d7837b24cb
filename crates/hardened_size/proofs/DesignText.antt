-- The flat text of a hardened design has at most 128 times the bytes of its original's.
use Rattle.std.proofs.Common.{◌≡◌, ℕ, ◌+◌, ◌*◌, ◌≤◌, List, [], length, slice_get, Some, sym, ap, ◌∙◌, arith}
use Rattle.std.specs.Prelude.{Bool}
use Rattle.std.specs.List.{sum_by, range_with_len}
use Rattle.std.proofs.lemmas.List.Sums.{sum_by-cons, sum_by-le-sum_by}
use Rattle.flat_net.specs.Net.{Net, Node, Table, Register, node_of, pins_of, all_pins, IsValid}
use Rattle.certificate.specs.declared.role.Role.{Role}
use Rattle.certificate.specs.declared.role.Role.TheVariants.{Copy, Voter}
use Rattle.certificate.specs.Cert.{PlainCert, IsCert, role_of}
use Rattle.certificate.specs.Rules.{AllHold}
use Rattle.certificate.proofs.Lefts.{role_there}
use Rattle.library_faults.specs.FlatText.{spaced}
use Rattle.blif_writer.specs.Length.{nets_length, node_length, flat_length}
use Rattle.triplicate.specs.Form.{IsTripled, parts_of, is_voted}
use Rattle.hardened_size.proofs.Sums.{sum_times, sum_of_lists, sum_by_number, sum_by_place}
use Rattle.hardened_size.proofs.Readers.{node_there}
use Rattle.hardened_size.proofs.Roles.{charge, roles_charged}
use Rattle.hardened_size.proofs.Lines.{length_at, name_length, copy_line, voter_line}
use Rattle.hardened_size.proofs.Ports.{inputs_long, clocks_long, outputs_long}

pins_within : (n : Net) (node : Node) → nets_length n (pins_of node) ≤ node_length n node
pins_within n (Table name cover pins) = omega arith
pins_within n (Register name init pin) = omega (arith, sum_by-cons (name_length n) pin [])

-- the names at all pins are no longer than the lines of all nodes
pub all_pins_within : (n : Net) → sum_by (name_length n) (all_pins n) ≤ sum_by (node_length n) n.nodes
all_pins_within n = omega (arith, sum_of_lists (name_length n) pins_of n.nodes, sum_by-le-sum_by (λ node. nets_length n (pins_of node)) (node_length n) n.nodes (pins_within n))

-- the lines of nodes, by number
pub nodes_by_number : (n : Net) → sum_by (λ x. length_at n (node_of n x)) (range_with_len (length n.inputs) (length n.nodes)) ≤ sum_by (node_length n) n.nodes
nodes_by_number n = sum_by_number (node_length n) (λ x. length_at n (node_of n x)) (length n.inputs) n.nodes (λ i node e. omega (arith, ap (length_at n) (node_there n i node e)))

module _ (n h : Net) (f g : List Bool) (k : PlainCert) (valid : IsValid n) (hardened_valid : IsValid h) (cert : IsCert k) (is : IsTripled n h k) (holds : AllHold n f h g k) where
  -- what the lines of a hardened node cost, by its role
  node_costs : (j : ℕ) (node : Node) (r : Role) → slice_get h.nodes j ≡ Some node → slice_get k.roles j ≡ Some r → node_length h node ≤ charge (λ x. 8 * length_at n (node_of n x)) (λ x. 26 * name_length n x) r
  node_costs j node r e er = go r (ap (λ (s : ℕ). role_of k (s + j)) (sym is.fits.hardened_inputs) ∙ role_there k j r er)
    where
      go : (r : Role) → role_of k (length h.inputs + j) ≡ Some r → node_length h node ≤ charge (λ x. 8 * length_at n (node_of n x)) (λ x. 26 * name_length n x) r
      go (Copy x c) role = copy_line n h f g k valid hardened_valid cert is holds j x.0 c node role (node_there h j node e)
      go (Voter x p c) role = voter_line n h f g k valid hardened_valid cert is holds j x.0 p.0 c node role (node_there h j node e)

  pub nodes_long : sum_by (node_length h) h.nodes ≤ 102 * sum_by (node_length n) n.nodes
  nodes_long =
      let a : ℕ → ℕ = λ x. 8 * length_at n (node_of n x) in
      let b : ℕ → ℕ = λ x. 26 * name_length n x in
      let nodes = range_with_len (length n.inputs) (length n.nodes) in
      let costs = sum_by_place (node_length h) (charge a b) h.nodes k.roles (sym is.fits.hardened_nodes) node_costs in
      let roles = ap (sum_by (charge a b)) is.roles in
      omega (arith, costs, roles, roles_charged n (parts_of k) (is_voted n h k) a b, sum_times 8 (λ x. length_at n (node_of n x)) nodes, nodes_by_number n, sum_times 26 (name_length n) (all_pins n), all_pins_within n)

  pub design_long : flat_length h ≤ 128 * flat_length n
  unfolding flat_length
  design_long = omega (arith, ap spaced is.model, inputs_long n h k valid cert is, clocks_long n h k valid cert is, outputs_long n h k valid cert is, nodes_long)
