-- Where each stands after those that it needs, none is in a loop.
use Rattle.std.proofs.Common.{◌≡◌, ◌≢◌, ℕ, zero, suc, ◌-◌, ◌<◌, ◌≤◌, ◌⊎◌, List, length, sym, subst, ◌∙◌, inl, inr, arith}
use Rattle.std.specs.Prelude.{slice_index, Contains}
use Rattle.std.proofs.lemmas.Bool.{cases_lt}
use Rattle.std.proofs.lemmas.List.{get_or_default}
use Rattle.flat_net.specs.Net.{Net, node_of, net_count, table_pins, IsTable, IsOrder}
use Rattle.flat_net.specs.Loop.{ReadsTable, IsLoop}
use Rattle.flat_net.specs.Private.ByPlace.{IsOrderByPlace}
use Rattle.flat_net.proofs.Causes.{loop_table}
use Rattle.flat_net.proofs.Ranges.{table_within}
use Rattle.flat_net.proofs.ByPlace.{by_place}

-- a place of the order, and one of the loop, where the same number stands
pub record Meets (order around : List ℕ) (bound : ℕ) : Type 0 where
  pub place : ℕ
  pub at : ℕ
  pub earlier : place < bound
  pub within : at < length around
  pub same : slice_index order place ≡ slice_index around at

-- a number of the loop never stands in the order, where before each there stands another
module _ (order around : List ℕ) (before : (k j : ℕ) → k < length order → j < length around → slice_index order k ≡ slice_index around j → Meets order around k) where
  none_below : (bound k j : ℕ) → k < bound → k < length order → j < length around → slice_index order k ≢ slice_index around j
  none_below zero k j below h l e = absurd (omega arith)
  none_below (suc bound) k j below h l e =
      let m = before k j h l e in
      let first = m.earlier in
      none_below bound m.place m.at (omega arith) (omega arith) m.within m.same

  pub none_stands : (k j : ℕ) → k < length order → j < length around → slice_index order k ≢ slice_index around j
  none_stands k j = none_below (suc k) k j (omega arith)

  pub none_contained : 0 < length around → Contains order (slice_index around 0) → ⊥
  none_contained some (k, h, e) = none_stands k 0 h some (get_or_default order k 0 (slice_index around 0) h ∙ e)

-- in a loop each has a next, that of the last being the first
pub next_around : (Next : ℕ → ℕ → Type 0) (around : List ℕ) → 0 < length around → ((k : ℕ) → suc k < length around → Next (slice_index around k) (slice_index around (suc k))) → Next (slice_index around (length around - 1)) (slice_index around 0)
    → (k : ℕ) → k < length around → (j : ℕ) × (j < length around) × Next (slice_index around k) (slice_index around j)
next_around Next around some next closed k h = go (cases_lt (suc k) (length around))
  where
    go : (suc k < length around) ⊎ (length around ≤ suc k) → (j : ℕ) × (j < length around) × Next (slice_index around k) (slice_index around j)
    go (inl more) = (suc k, more, next k more)
    go (inr last) =
        let e : length around - 1 ≡ k = omega arith in
        (0, some, subst (λ (i : ℕ). Next (slice_index around i) (slice_index around 0)) e closed)

-- ---- tables

pub no_loop : (n : Net) (order tables : List ℕ) → IsOrder n order → IsLoop n tables → ⊥
no_loop n order tables ordered loop = go (places.complete (slice_index tables 0) first.0 first.1)
  where
    places : IsOrderByPlace n order
    places = by_place n order ordered

    first : (length n.inputs ≤ slice_index tables 0) × (slice_index tables 0 < net_count n)
    first = table_within n (slice_index tables 0) (loop_table n tables loop 0 loop.some)

    before : (k j : ℕ) → k < length order → j < length tables → slice_index order k ≡ slice_index tables j → Meets order tables k
    before k j h l e =
        let (at, within, reads) = next_around (ReadsTable n) tables loop.some loop.next loop.closed j l in
        let (i, below, is) = subst (λ (x : ℕ). Contains (table_pins (node_of n x)) (slice_index tables at)) (sym e) reads in
        let pin : slice_index (table_pins (node_of n (slice_index order k))) i ≡ slice_index tables at = get_or_default (table_pins (node_of n (slice_index order k))) i 0 (slice_index tables at) below ∙ is in
        let (place, earlier, same) = places.after k i h below (subst (λ (x : ℕ). IsTable (node_of n x)) (sym pin) (loop_table n tables loop at within)) in
        record {
          place = place;
          at = at;
          earlier = earlier;
          within = within;
          same = same ∙ pin;
        }

    go : (k : ℕ) × (k < length order) × (slice_index order k ≡ slice_index tables 0) → ⊥
    go (k, h, e) = none_stands order tables before k 0 h loop.some e
