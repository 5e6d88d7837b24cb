-- An order, and the same by the places of its entries.
use Rattle.std.proofs.Common.{◌≡◌, ℕ, ◌+◌, ◌<◌, List, ◌∷◌, ◌++◌, length, take, drop, get_or, sym, ap, ◌∙◌, subst, arith}
use Rattle.std.specs.Prelude.{Contains}
use Rattle.std.proofs.lemmas.List.{get_or_default, get_or_append_left, get_or-take, length-take-le, length-append}
use Rattle.std.proofs.Math.Seq.{get_or-append_seam}
use Rattle.flat_net.specs.Net.{Net, node_of, table_pins, IsTable, IsNode, IsOrder}
use Rattle.flat_net.specs.Private.ByPlace.{ComesBefore, IsOrderByPlace}
use Rattle.flat_net.proofs.Going.{taken_split}

module _ (n : Net) (order : List ℕ) where
  split_at : (k : ℕ) → k < length order → order ≡ take k order ++ get_or order k 0 ∷ drop (k + 1) order
  split_at k h = taken_split order k (get_or order k 0) h (get_or_default order k 0 (get_or order k 0) h)

  in_front : (j k d : ℕ) → j < k → k < length order → get_or (take k order) j d ≡ get_or order j 0
  in_front j k d l h = get_or-take k order j d l ∙ get_or_default order j d 0 (omega (arith, l, h))

  stands_before : (j k x : ℕ) → j < k → k < length order → get_or order j 0 ≡ x → Contains (take k order) x
  stands_before j k x l h e = (j, omega (arith, l, length-take-le k order (omega (arith, h))), in_front j k x l h ∙ e)

  module _ (is : IsOrder n order) where
    before_at : (k x : ℕ) → k < length order → Contains (take k order) x → (j : ℕ) × (j < k) × (get_or order j 0 ≡ x)
    before_at k x h (j, l, e) =
        let less : j < k = omega (arith, l, length-take-le k order (omega (arith, h))) in
        (j, less, sym (in_front j k x less h) ∙ e)

    after_at : (k i : ℕ) → k < length order → ComesBefore n order k i
    after_at k i h below table = before_at k _ h (is.after (take k order) (drop (k + 1) order) (get_or order k 0) (split_at k h) i 0 below table)

    found : (x : ℕ) → Contains order x → (k : ℕ) × (k < length order) × (get_or order k 0 ≡ x)
    found x (k, h, e) = (k, h, get_or_default order k 0 x h ∙ e)

    pub by_place : IsOrderByPlace n order
    by_place = record {
      nodes = λ k h. is.nodes k 0 h;
      complete = λ x low high. found x (is.complete x (low, high));
      once = λ j k l h e. is.once (take k order) (drop (k + 1) order) (get_or order k 0) (split_at k h) (stands_before j k (get_or order k 0) l h e);
      after = after_at;
    }

  module _ (is : IsOrderByPlace n order) where
    module _ (before after : List ℕ) (x : ℕ) (split : order ≡ before ++ x ∷ after) where
      here : get_or order (length before) 0 ≡ x
      here = ap (λ (xs : List ℕ). get_or xs (length before) 0) split ∙ get_or-append_seam before x after 0

      within : length before < length order
      within = omega (arith, ap length split, length-append before (x ∷ after))

      front : (j d : ℕ) → j < length before → get_or order j 0 ≡ get_or before j d
      front j d l = ap (λ (xs : List ℕ). get_or xs j 0) split ∙ (get_or_append_left before (x ∷ after) 0 j l ∙ get_or_default before j 0 d l)

      once_split : Contains before x → ⊥
      once_split (j, l, e) = is.once j (length before) l within (front j x l ∙ (e ∙ sym here))

      stands : (y : ℕ) → (j : ℕ) × (j < length before) × (get_or order j 0 ≡ y) → Contains before y
      stands y (j, l, e) = (j, l, sym (front j y l) ∙ e)

      reads : (i d : ℕ) → i < length (table_pins (node_of n (get_or order (length before) 0))) → IsTable (node_of n (get_or (table_pins (node_of n (get_or order (length before) 0))) i d)) → Contains before (get_or (table_pins (node_of n (get_or order (length before) 0))) i d)
      reads i d below table =
          let same = get_or_default (table_pins (node_of n (get_or order (length before) 0))) i 0 d below in
          subst (λ (y : ℕ). Contains before y) same (stands _ (is.after (length before) i within below (subst (λ (y : ℕ). IsTable (node_of n y)) (sym same) table)))

      after_split : (i d : ℕ) → i < length (table_pins (node_of n x)) → IsTable (node_of n (get_or (table_pins (node_of n x)) i d)) → Contains before (get_or (table_pins (node_of n x)) i d)
      after_split i d = subst (λ (y : ℕ). i < length (table_pins (node_of n y)) → IsTable (node_of n (get_or (table_pins (node_of n y)) i d)) → Contains before (get_or (table_pins (node_of n y)) i d)) here (reads i d)

    held : (x : ℕ) → (k : ℕ) × (k < length order) × (get_or order k 0 ≡ x) → Contains order x
    held x (k, h, e) = (k, h, get_or_default order k x 0 h ∙ e)

    pub from_places : IsOrder n order
    from_places = record {
      nodes = λ k d h. subst (λ (y : ℕ). IsNode n y) (get_or_default order k 0 d h) (is.nodes k h);
      complete = λ x node. held x (is.complete x node.0 node.1);
      once = once_split;
      after = λ before after x split i d below table. after_split before after x split i d below table;
    }
