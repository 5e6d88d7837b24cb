-- Induction over the nets of a design, each table after its pins.
use Rattle.std.proofs.Common.{◌≡◌, ℕ, zero, suc, ◌<◌, ◌≤◌, Bool, List, length, refl, sym, ◌∙◌, ap, subst, arith, slice_index, Option, Some, None}
use Rattle.table_cover.specs.Cover.{PlainCover}
use Rattle.flat_net.specs.Net.{Net, Node, Table, Register, node_of, table_pins, IsTable, IsOrder}
use Rattle.flat_net.specs.Private.ByPlace.{IsOrderByPlace}
use Rattle.flat_net.proofs.ByPlace.{by_place}
use Rattle.flat_net.proofs.Slots.{slot_within}

module _ (n : Net) (order : List ℕ) (is_order : IsOrder n order) (P : ℕ → Type 0)
    (inputs : (x : ℕ) → node_of n x ≡ None → P x)
    (registers : (x : ℕ) (name : List ℕ) (init : Bool) (pin : ℕ) → node_of n x ≡ Some (Register name init pin) → P x)
    (tables : (x : ℕ) (name : List ℕ) (cover : PlainCover) (pins : List ℕ) → node_of n x ≡ Some (Table name cover pins) → ((j : ℕ) → j < length pins → P (slice_index pins j)) → P x)
  where
    places : IsOrderByPlace n order
    places = by_place n order is_order

    -- a net that is no table, or a table of which P is known
    other : (x : ℕ) → (IsTable (node_of n x) → P x) → P x
    other x known = go (node_of n x) refl
      where
        go : (o : Option Node) → node_of n x ≡ o → P x
        go None e = inputs x e
        go (Some (Register name init pin)) e = registers x name init pin e
        go (Some (Table name cover pins)) e = known (subst IsTable (sym e) tt)

    -- P of the net at k, where it is known of those before
    at : (k : ℕ) → k < length order → ((j : ℕ) → j < k → P (slice_index order j)) → P (slice_index order k)
    at k h before = go (node_of n (slice_index order k)) refl
      where
        go : (o : Option Node) → node_of n (slice_index order k) ≡ o → P (slice_index order k)
        go None e = inputs _ e
        go (Some (Register name init pin)) e = registers _ name init pin e
        go (Some (Table name cover pins)) e =
            tables _ name cover pins e (λ j l. other (slice_index pins j) (λ is_table. pin j l is_table))
          where
            pin : (j : ℕ) → j < length pins → IsTable (node_of n (slice_index pins j)) → P (slice_index pins j)
            pin j l is_table =
                let same : table_pins (node_of n (slice_index order k)) ≡ pins = ap table_pins e in
                let (i, lt, is) = places.after k j h (subst (λ (ps : List ℕ). j < length ps) (sym same) l) (subst (λ (ps : List ℕ). IsTable (node_of n (slice_index ps j))) (sym same) is_table) in
                subst P (is ∙ ap (λ (ps : List ℕ). slice_index ps j) same) (before i lt)

    below : (k j : ℕ) → j < k → k ≤ length order → P (slice_index order j)
    below zero j l h = absurd (omega arith)
    below (suc k) j l h = at j (omega arith) (λ i m. below k i (omega arith) (omega arith))

    pub net_induction : (x : ℕ) → P x
    net_induction x = go (node_of n x) refl
      where
        go : (o : Option Node) → node_of n x ≡ o → P x
        go None e = inputs x e
        go (Some node) e =
            let (low, high) = slot_within _ _ x node e in
            let (k, l, is) = places.complete x low high in
            subst P is (below (length order) k l (omega arith))
