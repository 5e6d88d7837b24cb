-- The tables of an order, in that order.
use Rattle.std.proofs.Common.{◌≡◌, ◌≢◌, ℕ, ◌+◌, ◌<◌, ◌≤◌, ◌⊎◌, inl, inr, List, [], ◌∷◌, ◌++◌, length, sym, ◌∙◌, ap, subst, arith, slice_index}
use Rattle.std.proofs.lemmas.List.{length-append, get_or_append_left}
use Rattle.std.proofs.Math.Seq.{get_or-append_seam}
use Rattle.flat_net.specs.Net.{Net, node_of, table_pins, IsTable, IsOrder}
use Rattle.flat_net.specs.Private.ByPlace.{ComesBefore, IsOrderByPlace}
use Rattle.flat_net.proofs.ByPlace.{by_place}
use Rattle.net_simulator.specs.Tables.{IsTableOrder}
use Rattle.net_simulator.proofs.Lanes.{table_within}

-- the tables among the first i of the order
pub record HasTables (n : Net) (order : List ℕ) (i : ℕ) (nets : List ℕ) : Type 0 where
  pub tables : (k : ℕ) → k < length nets → IsTable (node_of n (slice_index nets k)) × (m : ℕ) × (m < i) × (slice_index order m ≡ slice_index nets k)
  pub complete : (m : ℕ) → m < i → IsTable (node_of n (slice_index order m)) → (k : ℕ) × (k < length nets) × (slice_index nets k ≡ slice_index order m)
  pub once : (j k : ℕ) → j < k → k < length nets → slice_index nets j ≢ slice_index nets k
  pub after : (k i : ℕ) → k < length nets → ComesBefore n nets k i

pub none_yet : (n : Net) (order : List ℕ) → HasTables n order 0 []
none_yet n order = record {
  tables = λ k h. absurd (omega arith);
  complete = λ m h table. absurd (omega arith);
  once = λ j k h l same. absurd (omega arith);
  after = λ k i h l table. absurd (omega arith);
}

below_or_last : (m i : ℕ) → m < i + 1 → (m < i) ⊎ (m ≡ i)
below_or_last m i h = grind arith

module _ (n : Net) (order : List ℕ) (i : ℕ) (nets : List ℕ) (has : HasTables n order i nets) where
  -- node i of the order is no table
  pub no_table_more : (IsTable (node_of n (slice_index order i)) → ⊥) → HasTables n order (i + 1) nets
  no_table_more other = record {
    tables = λ k h. let (table, m, below, same) = has.tables k h in (table, m, (omega arith), same);
    complete = λ m h table. go m table (below_or_last m i h);
    once = has.once;
    after = has.after;
  }
    where
      go : (m : ℕ) → IsTable (node_of n (slice_index order m)) → (m < i) ⊎ (m ≡ i) → (k : ℕ) × (k < length nets) × (slice_index nets k ≡ slice_index order m)
      go m table (inl h) = has.complete m h table
      go m table (inr e) = absurd (other (subst (λ (z : ℕ). IsTable (node_of n (slice_index order z))) e table))

  -- all have been seen
  pub has_all : IsOrder n order → length order ≤ i → IsTableOrder n nets
  has_all is h = record {
    tables = λ k l. (has.tables k l).0;
    complete = λ x table.
        let (low, high) = table_within n x table in
        let (m, within, here) = (by_place n order is).complete x low high in
        let (k, below, there) = has.complete m (omega arith) (subst (λ (z : ℕ). IsTable (node_of n z)) (sym here) table) in
        (k, below, there ∙ here);
    once = has.once;
    after = has.after;
  }

  module _ (x : ℕ) (is : IsOrder n order) (within : i < length order) (here : slice_index order i ≡ x) (table : IsTable (node_of n x)) where
    places : IsOrderByPlace n order
    places = by_place n order is

    abbrev more : List ℕ
    more = nets ++ x ∷ []

    long : length more ≡ length nets + 1
    long = length-append nets (x ∷ [])

    left : (k : ℕ) → k < length nets → slice_index more k ≡ slice_index nets k
    left k h = get_or_append_left nets (x ∷ []) 0 k h

    last : slice_index more (length nets) ≡ x
    last = get_or-append_seam nets x [] 0

    last_at : (k : ℕ) → k ≡ length nets → slice_index more k ≡ x
    last_at k e = ap (slice_index more) e ∙ last

    abbrev Seen : ℕ → Type 0
    Seen y = IsTable (node_of n y) × (m : ℕ) × (m < i + 1) × (slice_index order m ≡ y)

    seen : (k : ℕ) → (k < length nets) ⊎ (k ≡ length nets) → Seen (slice_index more k)
    seen k (inl h) =
        let (one, m, below, same) = has.tables k h in
        subst Seen (sym (left k h)) (one, m, (let b : m < i + 1 = omega arith in b), same)
    seen k (inr e) = subst Seen (sym (last_at k e)) (table, i, (let b : i < i + 1 = omega arith in b), here)

    found : (m : ℕ) → (m < i) ⊎ (m ≡ i) → IsTable (node_of n (slice_index order m)) → (k : ℕ) × (k < length more) × (slice_index more k ≡ slice_index order m)
    found m (inl h) one =
        let (k, below, same) = has.complete m h one in
        (k, (let b : k < length more = let l = long in omega arith in b), left k below ∙ same)
    found m (inr e) one = (length nets, (let b : length nets < length more = let l = long in omega arith in b), last ∙ (sym here ∙ ap (slice_index order) (sym e)))

    apart : (j k : ℕ) → j < k → (k < length nets) ⊎ (k ≡ length nets) → slice_index more j ≢ slice_index more k
    apart j k h (inl l) same = has.once j k h l (sym (left j (omega arith)) ∙ (same ∙ left k l))
    apart j k h (inr e) same =
        let l : j < length nets = omega arith in
        let (one, m, below, there) = has.tables j l in
        places.once m i below within (there ∙ (sym (left j l) ∙ (same ∙ (last_at k e ∙ sym here))))

    abbrev Behind : ℕ → ℕ → ℕ → Type 0
    Behind k p y = p < length (table_pins (node_of n y)) → IsTable (node_of n (slice_index (table_pins (node_of n y)) p)) → (j : ℕ) × (j < k) × (slice_index more j ≡ slice_index (table_pins (node_of n y)) p)

    behind : (k p : ℕ) → (k < length nets) ⊎ (k ≡ length nets) → Behind k p (slice_index more k)
    behind k p (inl l) = subst (Behind k p) (sym (left k l)) (λ a b.
        let (j, below, same) = has.after k p l a b in
        (j, below, left j (omega arith) ∙ same))
    behind k p (inr e) = subst (Behind k p) (here ∙ sym (last_at k e)) (λ a b.
        let (m, before, there) = places.after i p within a b in
        let (j, below, same) = has.complete m before (subst (λ (z : ℕ). IsTable (node_of n z)) (sym there) b) in
        (j, (let c : j < k = omega arith in c), left j below ∙ (same ∙ there)))

    -- node i of the order is table x
    pub one_table_more : HasTables n order (i + 1) (nets ++ x ∷ [])
    one_table_more = record {
      tables = λ k h. seen k (below_or_last k (length nets) (let l = long in omega arith));
      complete = λ m h one. found m (below_or_last m i h) one;
      once = λ j k h l. apart j k h (below_or_last k (length nets) (let w = long in omega arith));
      after = λ k p h. behind k p (below_or_last k (length nets) (let l = long in omega arith));
    }
