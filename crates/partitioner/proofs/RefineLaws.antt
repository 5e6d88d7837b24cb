-- Passes of moves keep the rule of sizes, and the cost does not rise.
use Rattle.std.proofs.Common.{◌≡◌, ℕ, zero, suc, ◌+◌, ◌<◌, ◌≤◌, ◌⊎◌, inl, inr, true, eqb, length, refl, sym, ◌∙◌, ap, subst, arith, get_or, set, add-one, add-zero, ◌-◌}
use Rattle.std.proofs.lemmas.Bool.{cases_eq, ne_eqb, ltb-true, true≢false}
use Rattle.std.proofs.lemmas.List.{length-set}
use Rattle.std.proofs.lemmas.List.Elements.{All-set}
use Rattle.flat_net.specs.Net.{Net}
use Rattle.tmr_base.specs.Parts.{PlainParts}
use Rattle.partitioner.specs.Below.{one_if}
use Rattle.partitioner.specs.Cost.{cost}
use Rattle.partitioner.specs.Sizes.{KeepsSize, held, capacity}
use Rattle.partitioner.specs.Refining.{has_room, put, place, move, moves, pass, refined, IsMinimal}
use Rattle.partitioner.specs.Private.Leading.{IsReached, HasNoRoom, IsFixed}
use Rattle.partitioner.proofs.BelowLaws.{one_if_le}
use Rattle.partitioner.proofs.LowestLaws.{lowest_is}
use Rattle.partitioner.proofs.PutLaws.{put_same}
use Rattle.partitioner.proofs.MinimalLaws.{all_stay_minimal}
use Rattle.partitioner.proofs.HeldLaws.{held_moved}

reached_place : (n : Net) (size : ℕ) (parts : PlainParts) (i : ℕ) → IsReached (λ p. cost n (put parts i p)) (has_room size parts) (get_or parts.of i 0) parts.count (place n size parts i)
reached_place n size parts i = (lowest_is (λ p. cost n (put parts i p)) (has_room size parts) (get_or parts.of i 0) parts.count).reached

-- a node goes to a partition
pub place_in_range : (n : Net) (size : ℕ) (parts : PlainParts) (i : ℕ) → get_or parts.of i 0 < parts.count → place n size parts i < parts.count
place_in_range n size parts i within = go (reached_place n size parts i)
  where
    go : IsReached (λ p. cost n (put parts i p)) (has_room size parts) (get_or parts.of i 0) parts.count (place n size parts i) → place n size parts i < parts.count
    go (inl e) = omega (arith, e, within)
    go (inr h) = h.0

-- where it goes nowhere, all stays
pub move_stays : (n : Net) (size : ℕ) (parts : PlainParts) (i : ℕ) → place n size parts i ≡ get_or parts.of i 0 → move n size parts i ≡ parts
move_stays n size parts i e = ap (put parts i) e ∙ put_same parts i

move_keeps : (n : Net) (size : ℕ) (parts : PlainParts) (i : ℕ) → i < length n.nodes → KeepsSize n size parts → KeepsSize n size (move n size parts i)
move_keeps n size parts i l keeps = go (reached_place n size parts i)
  where
    fits : (b q : ℕ) → q < parts.count → has_room size parts b ≡ true → held (set parts.of i b) q ≤ capacity size
    fits b q h room = at (cases_eq b q)
      where
        moved : held (set parts.of i b) q + one_if (eqb (get_or parts.of i 0) q) ≡ held parts.of q + one_if (eqb b q)
        moved = held_moved parts.of i b q (omega (arith, keeps.each, l))

        at : (b ≡ q) ⊎ (b ≡ q → ⊥) → held (set parts.of i b) q ≤ capacity size
        at (inl e) =
            let free : held parts.of b < capacity size = ltb-true (held parts.of b) (capacity size) room in
            let same : held parts.of b ≡ held parts.of q = ap (held parts.of) e in
            omega (arith, moved, free, same, one_if_le (eqb b q))
        at (inr ne) =
            let none : one_if (eqb b q) ≡ 0 = ap one_if (ne_eqb b q ne) in
            omega (arith, moved, none, keeps.held_few q h)

    go : IsReached (λ p. cost n (put parts i p)) (has_room size parts) (get_or parts.of i 0) parts.count (place n size parts i) → KeepsSize n size (move n size parts i)
    go (inl e) = subst (λ (after : PlainParts). KeepsSize n size after) (sym (move_stays n size parts i e)) keeps
    go (inr h) = record { count = keeps.count; each = length-set parts.of i (place n size parts i) ∙ keeps.each; in_range = All-set (λ p. p < parts.count) parts.of i (place n size parts i) h.0 keeps.in_range; held_few = λ q m. fits (place n size parts i) q m h.1 }

move_cost : (n : Net) (size : ℕ) (parts : PlainParts) (i : ℕ) → cost n (move n size parts i) ≤ cost n parts
move_cost n size parts i = go (reached_place n size parts i)
  where
    now : cost n (put parts i (get_or parts.of i 0)) ≡ cost n parts
    now = ap (cost n) (put_same parts i)

    go : IsReached (λ p. cost n (put parts i p)) (has_room size parts) (get_or parts.of i 0) parts.count (place n size parts i) → cost n (move n size parts i) ≤ cost n parts
    go (inl e) = omega (arith, ap (cost n) (move_stays n size parts i e))
    go (inr h) = omega (arith, h.2, now)

pub moves_none : (n : Net) (size : ℕ) (parts : PlainParts) → moves n size parts 0 ≡ parts
unfolding moves
moves_none n size parts = refl

pub moves_more : (n : Net) (size : ℕ) (parts : PlainParts) (k : ℕ) → moves n size parts (k + 1) ≡ move n size (moves n size parts k) k
unfolding moves
moves_more n size parts k = ap (moves n size parts) (add-one k)

pub moves_keep : (n : Net) (size : ℕ) (parts : PlainParts) (k : ℕ) → k ≤ length n.nodes → KeepsSize n size parts → KeepsSize n size (moves n size parts k)
unfolding moves
moves_keep n size parts zero l keeps = keeps
moves_keep n size parts (suc k) l keeps = move_keeps n size (moves n size parts k) k (omega (arith, l)) (moves_keep n size parts k (omega (arith, l)) keeps)

pub moves_cost : (n : Net) (size : ℕ) (parts : PlainParts) (k : ℕ) → cost n (moves n size parts k) ≤ cost n parts
unfolding moves
moves_cost n size parts zero = omega arith
moves_cost n size parts (suc k) = omega (arith, move_cost n size (moves n size parts k) k, moves_cost n size parts k)

pub refined_none : (n : Net) (size : ℕ) (parts : PlainParts) → refined n size parts 0 ≡ parts
unfolding refined
refined_none n size parts = refl

-- after no passes the parts cost what they did
pub refined_zero : (n : Net) (size passes before : ℕ) (parts after : PlainParts) → after ≡ refined n size parts passes → before ≡ cost n parts → passes ≡ 0 → before ≡ cost n after
refined_zero n size passes before parts after is costs none =
    costs ∙ sym (ap (cost n) (is ∙ (ap (refined n size parts) none ∙ refined_none n size parts)))

pub refined_more : (n : Net) (size : ℕ) (parts : PlainParts) (k : ℕ) → refined n size parts (k + 1) ≡ pass n size (refined n size parts k)
unfolding refined
refined_more n size parts k = ap (refined n size parts) (add-one k)

pub refined_keeps : (n : Net) (size : ℕ) (parts : PlainParts) (k : ℕ) → KeepsSize n size parts → KeepsSize n size (refined n size parts k)
unfolding refined
refined_keeps n size parts zero keeps = keeps
refined_keeps n size parts (suc k) keeps = moves_keep n size (refined n size parts k) (length n.nodes) (omega arith) (refined_keeps n size parts k keeps)

pub refined_cost : (n : Net) (size : ℕ) (parts : PlainParts) (k : ℕ) → cost n (refined n size parts k) ≤ cost n parts
unfolding refined
refined_cost n size parts zero = omega arith
refined_cost n size parts (suc k) = omega (arith, moves_cost n size (refined n size parts k) (length n.nodes), refined_cost n size parts k)

-- after a pass without moves no pass moves anything
fixed_from : (n : Net) (size : ℕ) (parts : PlainParts) (k j : ℕ) → pass n size (refined n size parts k) ≡ refined n size parts k → refined n size parts (k + j) ≡ refined n size parts k
fixed_from n size parts k zero e = ap (refined n size parts) (add-zero k)
fixed_from n size parts k (suc j) e =
    let next : k + suc j ≡ (k + j) + 1 = omega arith in
    ap (refined n size parts) next ∙ (refined_more n size parts (k + j) ∙ (ap (pass n size) (fixed_from n size parts k j e) ∙ e))

pub refined_fixed : (n : Net) (size : ℕ) (parts : PlainParts) (k m : ℕ) → k ≤ m → pass n size (refined n size parts k) ≡ refined n size parts k → refined n size parts m ≡ refined n size parts k
refined_fixed n size parts k m l e =
    let whole : m ≡ k + (m - k) = omega (arith, l) in
    ap (refined n size parts) whole ∙ fixed_from n size parts k (m - k) e

-- where no node can move, each stays
fixed_place : (n : Net) (size : ℕ) (parts : PlainParts) (i : ℕ) → get_or parts.of i 0 < parts.count → IsFixed size parts → place n size parts i ≡ get_or parts.of i 0
fixed_place n size parts i within fixed = go (reached_place n size parts i) fixed
  where
    go : IsReached (λ p. cost n (put parts i p)) (has_room size parts) (get_or parts.of i 0) parts.count (place n size parts i) → IsFixed size parts → place n size parts i ≡ get_or parts.of i 0
    go (inl e) f = e
    go (inr h) (inl full) = absurd (true≢false (sym h.1 ∙ full (place n size parts i) h.0))
    go (inr h) (inr few) = omega (arith, h.0, few, within)

fixed_moves : (n : Net) (size : ℕ) (parts : PlainParts) (k : ℕ) → k ≤ length n.nodes → ((i : ℕ) → i < length n.nodes → get_or parts.of i 0 < parts.count) → IsFixed size parts → moves n size parts k ≡ parts
unfolding moves
fixed_moves n size parts zero l within fixed = refl
fixed_moves n size parts (suc k) l within fixed =
    ap (λ (after : PlainParts). move n size after k) (fixed_moves n size parts k (omega (arith, l)) within fixed)
    ∙ move_stays n size parts k (fixed_place n size parts k (within k (omega (arith, l))) fixed)

pub fixed_refined : (n : Net) (size : ℕ) (parts : PlainParts) (k : ℕ) → ((i : ℕ) → i < length n.nodes → get_or parts.of i 0 < parts.count) → IsFixed size parts → refined n size parts k ≡ parts
fixed_refined n size parts k within fixed =
    refined_fixed n size parts 0 k (omega arith)
    (ap (pass n size) (refined_none n size parts) ∙ (fixed_moves n size parts (length n.nodes) (omega arith) within fixed ∙ sym (refined_none n size parts)))
    ∙ refined_none n size parts

pub fixed_minimal : (n : Net) (size : ℕ) (parts : PlainParts) → ((i : ℕ) → i < length n.nodes → get_or parts.of i 0 < parts.count) → IsFixed size parts → IsMinimal n size parts
fixed_minimal n size parts within fixed = all_stay_minimal n size parts (λ i l. fixed_place n size parts i (within i l) fixed)

-- where no partition has room, nothing moves
full_stays : (n : Net) (size : ℕ) (parts : PlainParts) (i : ℕ) → HasNoRoom size parts → move n size parts i ≡ parts
full_stays n size parts i full = go (reached_place n size parts i)
  where
    go : IsReached (λ p. cost n (put parts i p)) (has_room size parts) (get_or parts.of i 0) parts.count (place n size parts i) → move n size parts i ≡ parts
    go (inl e) = move_stays n size parts i e
    go (inr h) = absurd (true≢false (sym h.1 ∙ full (place n size parts i) h.0))

pub full_moves : (n : Net) (size : ℕ) (parts : PlainParts) (k : ℕ) → HasNoRoom size parts → moves n size parts k ≡ parts
unfolding moves
full_moves n size parts zero full = refl
full_moves n size parts (suc k) full = ap (λ (after : PlainParts). move n size after k) (full_moves n size parts k full) ∙ full_stays n size parts k full
