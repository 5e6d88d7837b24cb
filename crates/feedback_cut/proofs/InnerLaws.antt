-- The rows of what nodes read inside their partitions, beside the pins.
use Rattle.std.proofs.Common.{◌≡◌, ◌≢◌, ℕ, ◌+◌, ◌-◌, ◌<◌, ◌≤◌, ◌⊎◌, [], length, get_or, refl, sym, ◌∙◌, ap, inl, inr, arith}
use Rattle.std.proofs.lemmas.Bool.{cases_eq, cases_lt}
use Rattle.std.proofs.lemmas.List.{get_or-map, get_or_past, length-map}
use Rattle.std.proofs.lemmas.List.FromFn.{get_or-map-range_with_len, length-map-range_with_len}
use Rattle.tmr_base.specs.Parts.{PlainParts}
use Rattle.std.specs.Prelude.{Option, Some, None}
use Rattle.std.proofs.lemmas.Bool.Decides.{nat_tests}
use Rattle.flat_net.specs.Net.{Net, Node, node_of, pins_at, IsValid}
use Rattle.flat_net.proofs.Ranges.{some_node_within, pin_in_range}
use Rattle.graph.specs.Rows.{row}
use Rattle.feedback_cut.specs.Inner.{node_pins, ReadsInside, inner, inner_row, inner_rows}

module _ (n : Net) (parts : PlainParts) where
  pub inner_long : length (inner_rows n parts) ≡ length n.nodes
  inner_long = length-map-range_with_len (inner_row n parts) 0 (length n.nodes)

  pub inner_at : (y : ℕ) → y < length n.nodes → row (inner_rows n parts) y ≡ inner_row n parts y
  inner_at y l = get_or-map-range_with_len (inner_row n parts) 0 (length n.nodes) y y [] l (omega arith)

  pub inner_pins : (y : ℕ) → y < length n.nodes → length (row (inner_rows n parts) y) ≡ length (node_pins n y)
  inner_pins y l = ap length (inner_at y l) ∙ length-map (node_pins n y) (inner n parts y)

  pub inner_read : (y j : ℕ) → y < length n.nodes → j < length (node_pins n y) → get_or (row (inner_rows n parts) y) j 0 ≡ inner n parts y (get_or (node_pins n y) j 0)
  inner_read y j l m = ap (λ r. get_or r j 0) (inner_at y l) ∙ get_or-map (inner n parts y) (node_pins n y) j 0 0 m

  inner_outside : (y pin : ℕ) → pin < length n.inputs → inner n parts y pin ≡ length n.nodes
  unfolding inner
  inner_outside y pin l = grind (arith, nat_tests)

  inner_other : (y pin : ℕ) → length n.inputs ≤ pin → get_or parts.of (pin - length n.inputs) 0 ≢ get_or parts.of y 0 → inner n parts y pin ≡ length n.nodes
  unfolding inner
  inner_other y pin l ne = grind (arith, nat_tests)

  inner_same : (y pin : ℕ) → length n.inputs ≤ pin → get_or parts.of (pin - length n.inputs) 0 ≡ get_or parts.of y 0 → inner n parts y pin ≡ pin - length n.inputs
  unfolding inner
  inner_same y pin l e = grind (arith, nat_tests)

  -- an entry that is a node's number is what the pin reads inside the partition
  pub read_from : (y j : ℕ) → j < length (row (inner_rows n parts) y) → get_or (row (inner_rows n parts) y) j 0 < length (inner_rows n parts) → ReadsInside n parts y j (get_or (row (inner_rows n parts) y) j 0)
  read_from y j l vertex = go (cases_lt y (length n.nodes))
    where
      go : (y < length n.nodes) ⊎ (length n.nodes ≤ y) → ReadsInside n parts y j (get_or (row (inner_rows n parts) y) j 0)
      go (inr past) = absurd (let none : length (row (inner_rows n parts) y) ≡ 0 = ap length (get_or_past (inner_rows n parts) y [] (omega (arith, inner_long, past))) in omega arith)
      go (inl here) = which (cases_lt (get_or (node_pins n y) j 0) (length n.inputs)) (cases_eq (get_or parts.of (get_or (node_pins n y) j 0 - length n.inputs) 0) (get_or parts.of y 0))
        where
          pin : j < length (node_pins n y)
          pin = omega (arith, inner_pins y here, l)

          is : get_or (row (inner_rows n parts) y) j 0 ≡ inner n parts y (get_or (node_pins n y) j 0)
          is = inner_read y j here pin

          which : (get_or (node_pins n y) j 0 < length n.inputs) ⊎ (length n.inputs ≤ get_or (node_pins n y) j 0) → (get_or parts.of (get_or (node_pins n y) j 0 - length n.inputs) 0 ≡ get_or parts.of y 0) ⊎ (get_or parts.of (get_or (node_pins n y) j 0 - length n.inputs) 0 ≡ get_or parts.of y 0 → ⊥) → ReadsInside n parts y j (get_or (row (inner_rows n parts) y) j 0)
          which (inl outside) e = absurd (omega (arith, is, inner_outside y (get_or (node_pins n y) j 0) outside, inner_long, vertex))
          which (inr inside) (inr ne) = absurd (omega (arith, is, inner_other y (get_or (node_pins n y) j 0) inside ne, inner_long, vertex))
          which (inr inside) (inl e) =
              let x : get_or (row (inner_rows n parts) y) j 0 ≡ get_or (node_pins n y) j 0 - length n.inputs = is ∙ inner_same y (get_or (node_pins n y) j 0) inside e in
              record { pin = pin; is = omega (arith, x, inside); together = ap (λ z. get_or parts.of z 0) x ∙ e }

  -- a node with a pin is one of the nodes
  pin_of_node : (y j : ℕ) → j < length (node_pins n y) → y < length n.nodes
  pin_of_node y j l = go (node_of n (length n.inputs + y)) refl l
    where
      go : (o : Option Node) → node_of n (length n.inputs + y) ≡ o → j < length (pins_at o) → y < length n.nodes
      go None e l = absurd (omega arith)
      go (Some node) e l = let w = some_node_within n (length n.inputs + y) node e in omega (arith, w.1)

  -- what the pin reads inside the partition stands in the row
  pub read_to : IsValid n → (y j x : ℕ) → ReadsInside n parts y j x → (y < length n.nodes) × (j < length (row (inner_rows n parts) y)) × (get_or (row (inner_rows n parts) y) j 0 ≡ x) × (x < length (inner_rows n parts))
  read_to valid y j x r = (node, omega (arith, inner_pins y node, r.pin), at, vertex)
    where
      node : y < length n.nodes
      node = pin_of_node y j r.pin

      vertex : x < length (inner_rows n parts)
      vertex = let w = pin_in_range n (length n.inputs + y) j (length n.inputs + x) valid r.pin (sym r.is) in omega (arith, inner_long, w)

      is : get_or (node_pins n y) j 0 ≡ length n.inputs + x
      is = r.is

      less : get_or (node_pins n y) j 0 - length n.inputs ≡ x
      less = omega (arith, is)

      at : get_or (row (inner_rows n parts) y) j 0 ≡ x
      at = inner_read y j node r.pin ∙ (inner_same y (get_or (node_pins n y) j 0) (omega (arith, is)) (ap (λ z. get_or parts.of z 0) less ∙ r.together) ∙ less)
