-- Each voter is charged to a pin that reads its net: what all voters cost is no more than what all pins bear.
use Rattle.std.proofs.Common.{◌≡◌, ℕ, ◌+◌, ◌-◌, ◌≤◌, Bool, true, false, cond, eqb, List, length, slice_get, Some, ap, ◌∙◌, arith}
use Rattle.std.specs.Prelude.{slice_index}
use Rattle.std.specs.List.{sum_by, range_with_len, list_any}
use Rattle.std.proofs.lemmas.List.Sums.{sum_by-le-sum_by}
use Rattle.std.proofs.lemmas.Option.{get_or_from_slice_get}
use Rattle.tmr_base.specs.Parts.{PlainParts}
use Rattle.flat_net.specs.Net.{Net, Node, node_of, pins_of, pins_at, all_pins}
use Rattle.flat_net.proofs.Slots.{slot_at}
use Rattle.feedback_cut.specs.Inner.{node_pins}
use Rattle.triplicate.specs.Voting.{votes_for, needs_voter, voting_parts}
use Rattle.hardened_size.proofs.Sums.{sum_of_lists, sum_of_passing, sum_by_number, some_entry, both, named_by_entries, entries_by_number}

-- the node with number i among the nodes
pub node_there : (n : Net) (i : ℕ) (node : Node) → slice_get n.nodes i ≡ Some node → node_of n (length n.inputs + i) ≡ Some node
node_there n i node e =
    let back : length n.inputs + i - length n.inputs ≡ i = omega arith in
    slot_at (length n.inputs) n.nodes (length n.inputs + i) (omega arith) ∙ (ap (slice_get n.nodes) back ∙ e)

-- what the pins of all nodes bear
pub pins_by_node : (n : Net) (f : List ℕ → ℕ) → sum_by (λ y. f (node_pins n y)) (range_with_len 0 (length n.nodes)) ≤ sum_by (λ node. f (pins_of node)) n.nodes
pins_by_node n f = sum_by_number (λ node. f (pins_of node)) (λ y. f (node_pins n y)) 0 n.nodes each
  where
    each : (i : ℕ) (node : Node) → slice_get n.nodes i ≡ Some node → f (node_pins n (0 + i)) ≤ f (pins_of node)
    each i node e =
        let start : 0 + i ≡ i = omega arith in
        let same : node_pins n (0 + i) ≡ pins_of node = ap (node_pins n) start ∙ ap pins_at (node_there n i node e) in
        omega (arith, ap f same)

smaller : (a b : Bool) (v : ℕ) → cond a (cond b v 0) 0 ≤ cond b v 0
smaller true b v = omega arith
smaller false b v = omega arith

module _ (n : Net) (parts : PlainParts) (voted : ℕ → ℕ → Bool) where
  -- a node that asks for a voter of x has a pin that reads x
  asked_by_pin : (v x y : ℕ) → cond (list_any (votes_for n voted x y) (range_with_len 0 (length (node_pins n y)))) v 0 ≤ sum_by (λ z. cond (eqb z x) v 0) (node_pins n y)
  asked_by_pin v x y =
      omega (arith, some_entry v (votes_for n voted x y) (range_with_len 0 (length (node_pins n y))), sum_by_number (λ z. cond (eqb z x) v 0) (λ j. cond (votes_for n voted x y j) v 0) 0 (node_pins n y) each)
    where
      each : (j z : ℕ) → slice_get (node_pins n y) j ≡ Some z → cond (votes_for n voted x y (0 + j)) v 0 ≤ cond (eqb z x) v 0
      each j z e =
          let start : 0 + j ≡ j = omega arith in
          let same : slice_index (node_pins n y) (0 + j) ≡ z = ap (slice_index (node_pins n y)) start ∙ get_or_from_slice_get (node_pins n y) j z 0 e in
          let pin : cond (eqb (slice_index (node_pins n y) (0 + j)) x) v 0 ≡ cond (eqb z x) v 0 = ap (λ (k : ℕ). cond (eqb k x) v 0) same in
          omega (arith, both (voted y (0 + j)) (eqb (slice_index (node_pins n y) (0 + j)) x) v, smaller (voted y (0 + j)) (eqb (slice_index (node_pins n y) (0 + j)) x) v, pin)

  -- the voters of x, at v for each partition, cost no more than the pins that read x, at v for each
  voters_of_net : (v x : ℕ) → sum_by (λ p. v) (voting_parts n parts voted x) ≤ sum_by (λ z. cond (eqb z x) v 0) (all_pins n)
  unfolding needs_voter
  voters_of_net v x =
      let asks : ℕ → Bool = λ y. list_any (votes_for n voted x y) (range_with_len 0 (length (node_pins n y))) in
      let pins : List ℕ → ℕ = λ zs. sum_by (λ z. cond (eqb z x) v 0) zs in
      let passing = sum_of_passing (λ p. v) (needs_voter n parts voted x) (range_with_len 0 parts.count) in
      let named = named_by_entries v (λ y. slice_index parts.of y) asks 0 parts.count (range_with_len 0 (length n.nodes)) in
      let nodes = sum_by-le-sum_by (λ y. cond (asks y) v 0) (λ y. pins (node_pins n y)) (range_with_len 0 (length n.nodes)) (λ y. asked_by_pin v x y) in
      omega (arith, passing, named, nodes, pins_by_node n pins, sum_of_lists (λ z. cond (eqb z x) v 0) pins_of n.nodes)

  -- all voters, at w of their net for each partition
  pub voters_charged : (w : ℕ → ℕ) (count : ℕ) → sum_by (λ x. sum_by (λ p. w x) (voting_parts n parts voted x)) (range_with_len 0 count) ≤ sum_by w (all_pins n)
  voters_charged w count =
      let each = sum_by-le-sum_by (λ x. sum_by (λ p. w x) (voting_parts n parts voted x)) (λ x. sum_by (λ z. cond (eqb z x) (w x) 0) (all_pins n)) (range_with_len 0 count) (λ x. voters_of_net (w x) x) in
      omega (arith, each, entries_by_number w (all_pins n) 0 count)
