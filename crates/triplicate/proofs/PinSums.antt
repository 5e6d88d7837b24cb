-- How many pins the first nodes have together, which says where the places for the pins of a node begin.
use Rattle.std.proofs.Common.{◌≡◌, ℕ, zero, suc, ◌+◌, ◌-◌, ◌<◌, ◌≤◌, length, refl, ap, ◌∙◌, arith, slice_get, Option, Some, take}
use Rattle.std.specs.Prelude.{sum_by}
use Rattle.std.specs.List.{range_with_len}
use Rattle.std.proofs.lemmas.List.{take_all}
use Rattle.std.proofs.lemmas.List.Sums.{sum_by_push, sum_by_more}
use Rattle.std.proofs.lemmas.Option.{get_or_from_slice_get}
use Rattle.flat_net.proofs.Slots.{slot_at, slice_get_there}
use Rattle.flat_net.specs.Net.{Net, Node, node_of, pins_of, pins_at, pin_total}
use Rattle.feedback_cut.specs.Inner.{node_pins}
use Rattle.node_reads.proofs.Numbers.{numbers_more}
use Rattle.triplicate.specs.Private.Places.{tap_start}

module _ (n : Net) where
  -- the pins of the first k nodes
  pub own_pins : (k : ℕ) → k ≤ length n.nodes → sum_by (λ y. length (node_pins n y)) (range_with_len 0 k) ≡ sum_by (λ node. length (pins_of node)) (take k n.nodes)
  own_pins zero h = refl
  own_pins (suc k) h =
      let (node, at) = slice_get_there n.nodes k (omega arith) in
      let e : suc k ≡ k + 1 = omega arith in
      let back : (length n.inputs + k) - length n.inputs ≡ k = omega arith in
      let here : node_of n (length n.inputs + k) ≡ Some node = slot_at (length n.inputs) n.nodes (length n.inputs + k) (omega arith) ∙ (ap (slice_get n.nodes) back ∙ at) in
      let g : ℕ → ℕ = λ y. length (node_pins n y) in
      let f : Node → ℕ = λ m. length (pins_of m) in
      omega (arith, ap (sum_by g) (numbers_more k), sum_by_push g (range_with_len 0 k) k, ap (λ j. sum_by f (take j n.nodes)) e, sum_by_more f n.nodes k node (omega arith), ap f (get_or_from_slice_get n.nodes k node node at), ap (λ (o : Option Node). length (pins_at o)) here, own_pins k (omega arith))

  pub all_pins : sum_by (λ y. length (node_pins n y)) (range_with_len 0 (length n.nodes)) ≡ pin_total n
  all_pins = own_pins (length n.nodes) (omega arith) ∙ ap (sum_by (λ node. length (pins_of node))) (take_all (length n.nodes) n.nodes (omega arith))

  -- ---- where the places begin

  -- those of the next node begin behind those of node y
  pub start_more : (y : ℕ) → tap_start n (suc y) ≡ tap_start n y + length (node_pins n y)
  start_more y =
      let g : ℕ → ℕ = λ z. length (node_pins n z) in
      ap (sum_by g) (numbers_more y) ∙ sum_by_push g (range_with_len 0 y) y

  start_grows : (y k : ℕ) → tap_start n y ≤ tap_start n (y + k)
  start_grows y zero =
      let e : y + 0 ≡ y = omega arith in
      omega (arith, ap (λ m. tap_start n m) e)
  start_grows y (suc k) =
      let e : y + suc k ≡ suc (y + k) = omega arith in
      omega (arith, ap (λ m. tap_start n m) e, start_more (y + k), start_grows y k)

  -- those of node z end before those of a later node begin
  pub starts_apart : (z y : ℕ) → z < y → tap_start n z + length (node_pins n z) ≤ tap_start n y
  starts_apart z y h =
      let e : suc z + (y - suc z) ≡ y = omega (arith, h) in
      omega (arith, ap (λ m. tap_start n m) e, start_more z, start_grows (suc z) (y - suc z))

  -- all places together are as many as there are pins
  pub start_few : (y : ℕ) → y < length n.nodes → tap_start n y + length (node_pins n y) ≤ pin_total n
  start_few y h = omega (arith, starts_apart y (length n.nodes) h, all_pins)
