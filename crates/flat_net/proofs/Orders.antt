-- An order has each node once.
use Rattle.std.proofs.Common.{◌≡◌, ℕ, ◌+◌, ◌-◌, ◌<◌, true, false, List, length, map, get_or, Any, refl, sym, ◌∙◌, arith, eqb}
use Rattle.std.specs.List.{list_any}
use Rattle.std.proofs.lemmas.List.{length-map, get_or-map, get_or_default}
use Rattle.std.proofs.lemmas.List.Folds.{Any-from_list_any, list_any-from_Any}
use Rattle.std.proofs.lemmas.Map.Keys.{IsDistinct-from_apart}
use Rattle.std.proofs.lemmas.Map.Steps.{length-le_from_distinct_below, le-length_from_below}
use Rattle.std.proofs.lemmas.Bool.{ne_eqb, eqb-true, eq-eqb}
use Rattle.flat_net.specs.Net.{Net, IsOrder}
use Rattle.flat_net.specs.Private.ByPlace.{IsOrderByPlace}
use Rattle.flat_net.proofs.ByPlace.{by_place}

module _ (n : Net) (order : List ℕ) (is : IsOrder n order) where
  places : IsOrderByPlace n order
  places = by_place n order is

  place_at : (k : ℕ) → k < length order → get_or (map (λ x. x - length n.inputs) order) k 0 ≡ get_or order k 0 - length n.inputs
  place_at k h = get_or-map (λ x. x - length n.inputs) order k 0 0 h

  within : (k : ℕ) → k < length (map (λ x. x - length n.inputs) order) → k < length order
  within k h = omega (arith, length-map order (λ x. x - length n.inputs))

  apart : (j k d : ℕ) → j < k → k < length (map (λ x. x - length n.inputs) order) → eqb (get_or (map (λ x. x - length n.inputs) order) j d) (get_or (map (λ x. x - length n.inputs) order) k d) ≡ false
  apart j k d jk h = ne_eqb _ _ (λ e. places.once j k jk (within k h) (let a = places.nodes j (omega (arith, within k h)) in let b = places.nodes k (within k h) in let s = sym (place_at j (omega (arith, within k h))) ∙ (get_or_default (map (λ x. x - length n.inputs) order) j 0 d (omega arith) ∙ (e ∙ (get_or_default (map (λ x. x - length n.inputs) order) k d 0 h ∙ place_at k (within k h)))) in omega (arith, a, b, s)))

  below : (q : ℕ) → list_any (eqb q) (map (λ x. x - length n.inputs) order) ≡ true → q < length n.nodes
  below q t = go (Any-from_list_any (eqb q) (map (λ x. x - length n.inputs) order) t)
    where
      go : Any (λ x. eqb q x ≡ true) (map (λ x. x - length n.inputs) order) → q < length n.nodes
      go (k, v, l, at, h) =
          let node = places.nodes k (within k l) in
          let here = sym (place_at k (within k l)) ∙ (get_or_default (map (λ x. x - length n.inputs) order) k 0 v l ∙ at) in
          omega (arith, eqb-true q v h, here, node)

  there : (q : ℕ) → q < length n.nodes → list_any (eqb q) (map (λ x. x - length n.inputs) order) ≡ true
  there q h = go (places.complete (length n.inputs + q) (omega arith) (omega arith))
    where
      go : (k : ℕ) × (k < length order) × (get_or order k 0 ≡ length n.inputs + q) → list_any (eqb q) (map (λ x. x - length n.inputs) order) ≡ true
      go (k, l, e) =
          let m : k < length (map (λ x. x - length n.inputs) order) = omega (arith, length-map order (λ x. x - length n.inputs)) in
          list_any-from_Any (eqb q) (map (λ x. x - length n.inputs) order) (k, q, m, get_or_default (map (λ x. x - length n.inputs) order) k q 0 m ∙ (place_at k l ∙ (omega arith)), eq-eqb q q refl)

  -- an order is as long as there are nodes
  pub length-order : length order ≡ length n.nodes
  length-order =
      let most = length-le_from_distinct_below (map (λ x. x - length n.inputs) order) (length n.nodes) (IsDistinct-from_apart eqb (map (λ x. x - length n.inputs) order) (λ j k d jk h. apart j k d jk h)) below in
      let least = le-length_from_below (map (λ x. x - length n.inputs) order) (length n.nodes) there in
      omega (arith, length-map order (λ x. x - length n.inputs))
