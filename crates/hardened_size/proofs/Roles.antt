-- What the roles of a hardened design cost together: a copy is charged to its node, and a voter to a pin.
use Rattle.std.proofs.Common.{◌≡◌, ℕ, ◌+◌, ◌*◌, ◌<◌, ◌≤◌, Bool, List, length, ap, ◌∙◌, arith}
use Rattle.std.specs.List.{sum_by, flat_map, range_with_len}
use Rattle.std.proofs.lemmas.List.Sums.{sum_by-append, sum_by-le-sum_by}
use Rattle.tmr_base.specs.Parts.{PlainParts}
use Rattle.flat_net.specs.Net.{Net, net_count, all_pins}
use Rattle.certificate.specs.declared.role.Role.{Role}
use Rattle.certificate.specs.declared.role.Role.TheVariants.{Copy, Voter}
use Rattle.triplicate.specs.Voting.{voting_parts}
use Rattle.triplicate.specs.Blocks.{threefold, copies_of, voters_for, block, hardened_roles}
use Rattle.triplicate.proofs.Lists.{range_cut}
use Rattle.triplicate.proofs.Numbering.{copies_of_node, copies_of_input}
use Rattle.hardened_size.proofs.Sums.{sum_none, sum_split, sum_times, sum_of_lists, sum_in_row}
use Rattle.hardened_size.proofs.Readers.{voters_charged}

-- a copy costs what `a` says of its node, and a voter what `b` says of its net
abbrev pub charge : (ℕ → ℕ) → (ℕ → ℕ) → Role → ℕ
charge a b (Copy x c) = a x.0
charge a b (Voter x p c) = b x.0

module _ (n : Net) (parts : PlainParts) (voted : ℕ → ℕ → Bool) (a b : ℕ → ℕ) where
  copies_cost : ℕ → ℕ
  copies_cost x = sum_by (charge a b) (copies_of n x)

  node_copies : (x : ℕ) → length n.inputs ≤ x → copies_cost x ≡ 3 * a x
  unfolding copies_cost
  node_copies x low =
      let three : sum_by (charge a b) (threefold (λ c. Copy (record { 0 = x }) c)) ≡ 3 * a x = omega arith in
      ap (sum_by (charge a b)) (copies_of_node n x low) ∙ three

  input_copies : (x : ℕ) → x < length n.inputs → copies_cost x ≡ 0
  unfolding copies_cost
  input_copies x l = ap (sum_by (charge a b)) (copies_of_input n x l)

  voters_cost : (x : ℕ) (ps : List ℕ) → sum_by (charge a b) (flat_map (voters_for x) ps) ≡ 3 * sum_by (λ p. b x) ps
  voters_cost x ps =
      let each = sum_by-le-sum_by (λ p. sum_by (charge a b) (voters_for x p)) (λ p. 3 * b x) ps (λ p. omega arith) in
      let back = sum_by-le-sum_by (λ p. 3 * b x) (λ p. sum_by (charge a b) (voters_for x p)) ps (λ p. omega arith) in
      omega (arith, sum_of_lists (charge a b) (voters_for x) ps, each, back, sum_times 3 (λ (p : ℕ). b x) ps)

  block_costs : (x : ℕ) → sum_by (charge a b) (block n parts voted x) ≡ copies_cost x + 3 * sum_by (λ p. b x) (voting_parts n parts voted x)
  unfolding copies_cost
  block_costs x = omega (arith, sum_by-append (charge a b) (copies_of n x) (flat_map (voters_for x) (voting_parts n parts voted x)), voters_cost x (voting_parts n parts voted x))

  -- inputs have no nodes as copies
  all_copies : sum_by copies_cost (range_with_len 0 (net_count n)) ≤ 3 * sum_by a (range_with_len (length n.inputs) (length n.nodes))
  all_copies =
      let start : 0 + length n.inputs ≡ length n.inputs = omega arith in
      let cut = ap (sum_by copies_cost) (range_cut 0 (length n.inputs) (length n.nodes)) ∙ sum_by-append copies_cost (range_with_len 0 (length n.inputs)) (range_with_len (0 + length n.inputs) (length n.nodes)) in
      let inputs = sum_in_row copies_cost (λ x. 0) 0 (length n.inputs) (λ x low high. omega (arith, input_copies x (omega (arith, high)))) in
      let nodes = sum_in_row copies_cost (λ x. 3 * a x) (length n.inputs) (length n.nodes) (λ x low high. omega (arith, node_copies x low)) in
      let moved = ap (λ (s : ℕ). sum_by copies_cost (range_with_len s (length n.nodes))) start in
      omega (arith, cut, inputs, sum_none (range_with_len 0 (length n.inputs)), nodes, moved, sum_times 3 a (range_with_len (length n.inputs) (length n.nodes)))

  pub roles_charged : sum_by (charge a b) (hardened_roles n parts voted) ≤ 3 * sum_by a (range_with_len (length n.inputs) (length n.nodes)) + 3 * sum_by b (all_pins n)
  unfolding hardened_roles
  roles_charged =
      let nets = range_with_len 0 (net_count n) in
      let voters : ℕ → ℕ = λ x. sum_by (λ p. b x) (voting_parts n parts voted x) in
      let blocks = sum_by-le-sum_by (λ x. sum_by (charge a b) (block n parts voted x)) (λ x. copies_cost x + 3 * voters x) nets (λ x. omega (arith, block_costs x)) in
      omega (arith, sum_of_lists (charge a b) (block n parts voted) nets, blocks, sum_split copies_cost (λ x. 3 * voters x) nets, sum_times 3 voters nets, all_copies, voters_charged n parts voted b (net_count n))
