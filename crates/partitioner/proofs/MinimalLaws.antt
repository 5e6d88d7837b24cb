-- Where no node would move.
use Rattle.std.proofs.Common.{◌≡◌, ℕ, ◌+◌, ◌<◌, ◌≤◌, ◌⊎◌, inl, inr, true, length, sym, ap, subst, arith, get_or}
use Rattle.std.proofs.lemmas.Bool.{cases_eq}
use Rattle.flat_net.specs.Net.{Net}
use Rattle.tmr_base.specs.Parts.{PlainParts}
use Rattle.partitioner.specs.Cost.{cost}
use Rattle.partitioner.specs.Refining.{has_room, put, place, IsMinimal}
use Rattle.partitioner.specs.Private.Leading.{AsGood, IsReached}
use Rattle.partitioner.proofs.LowestLaws.{IsLowest, lowest_is}
use Rattle.partitioner.proofs.PutLaws.{put_same}

is_place : (n : Net) (size : ℕ) (parts : PlainParts) (i : ℕ) → IsLowest (λ p. cost n (put parts i p)) (has_room size parts) (get_or parts.of i 0) parts.count (place n size parts i)
is_place n size parts i = lowest_is (λ p. cost n (put parts i p)) (has_room size parts) (get_or parts.of i 0) parts.count

cost_now : (n : Net) (parts : PlainParts) (i : ℕ) → cost n (put parts i (get_or parts.of i 0)) ≡ cost n parts
cost_now n parts i = ap (cost n) (put_same parts i)

pub stays_minimal : (n : Net) (size : ℕ) (parts : PlainParts) (i p : ℕ) → place n size parts i ≡ get_or parts.of i 0 → p < parts.count → has_room size parts p ≡ true → cost n parts ≤ cost n (put parts i p)
stays_minimal n size parts i p stays l room = go (subst (λ (a : ℕ). AsGood (λ q. cost n (put parts i q)) (get_or parts.of i 0) a p) stays ((is_place n size parts i).best p l room))
  where
    go : AsGood (λ q. cost n (put parts i q)) (get_or parts.of i 0) (get_or parts.of i 0) p → cost n parts ≤ cost n (put parts i p)
    go (inl h) = omega (arith, h, cost_now n parts i)
    go (inr h) = omega (arith, h.0, cost_now n parts i)

pub all_stay_minimal : (n : Net) (size : ℕ) (parts : PlainParts) → ((i : ℕ) → i < length n.nodes → place n size parts i ≡ get_or parts.of i 0) → IsMinimal n size parts
all_stay_minimal n size parts stay = λ i p l within apart room. stays_minimal n size parts i p (stay i l) within room

pub mover_not_minimal : (n : Net) (size : ℕ) (parts : PlainParts) (i : ℕ) → i < length n.nodes → (place n size parts i ≡ get_or parts.of i 0 → ⊥) → IsMinimal n size parts → ⊥
mover_not_minimal n size parts i l moves minimal = go (is_place n size parts i).reached
  where
    go : IsReached (λ q. cost n (put parts i q)) (has_room size parts) (get_or parts.of i 0) parts.count (place n size parts i) → ⊥
    go (inl e) = moves e
    go (inr h) = omega (arith, h.2, cost_now n parts i, minimal i (place n size parts i) l h.0 (λ e. moves (sym e)) h.1)

-- the first i nodes stay, and so does the next
pub stays_more : (n : Net) (size : ℕ) (before parts : PlainParts) (i : ℕ) → parts ≡ before → ((j : ℕ) → j < i → place n size before j ≡ get_or before.of j 0) → place n size parts i ≡ get_or parts.of i 0 → (j : ℕ) → j < i + 1 → place n size before j ≡ get_or before.of j 0
stays_more n size before parts i same earlier now j l = go (cases_eq j i)
  where
    here : place n size before i ≡ get_or before.of i 0
    here = subst (λ (ps : PlainParts). place n size ps i ≡ get_or ps.of i 0) same now

    go : (j ≡ i) ⊎ (j ≡ i → ⊥) → place n size before j ≡ get_or before.of j 0
    go (inl e) = subst (λ (k : ℕ). place n size before k ≡ get_or before.of k 0) (sym e) here
    go (inr ne) = earlier j (omega (arith, l, ne))
