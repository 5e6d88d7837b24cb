-- The cost, counted from the other readers of each node.
use Rattle.std.proofs.Common.{◌≡◌, ℕ, ◌+◌, ◌*◌, ◌<◌, ◌≤◌, ◌⊎◌, inl, inr, Bool, true, false, cond, eqb, not, ◌&&◌, ◌||◌, List, [], ◌∷◌, length, refl, sym, ◌∙◌, ap, arith, get_or}
use Rattle.std.specs.List.{range_with_len, filter, list_any}
use Rattle.std.proofs.lemmas.Bool.{cases_eq, cases_Bool, eq-eqb, ne_eqb}
use Rattle.std.proofs.lemmas.List.{take_all}
use Rattle.flat_net.specs.Net.{Net}
use Rattle.tmr_base.specs.Parts.{PlainParts}
use Rattle.partitioner.specs.Below.{sum_below, count_below}
use Rattle.node_reads.specs.Reading.{reads}
use Rattle.node_reads.specs.Sources.{reads_other}
use Rattle.node_reads.specs.Noting.{Lists, related}
use Rattle.partitioner.specs.Private.Meeting.{is_met}
use Rattle.partitioner.specs.Cost.{is_read_in, foreign_count, cost}
use Rattle.partitioner.proofs.BelowLaws.{count_same}

-- leaving out a number that fails changes no answer
any_kept : (f r : ℕ → Bool) (x y : ℕ) (rest rest' : List ℕ) → f x ≡ false → list_any f rest ≡ list_any f rest' → list_any f (cond (not (eqb x y) && r y) (y ∷ rest) rest) ≡ list_any f (cond (r y) (y ∷ rest') rest')
any_kept f r x y rest rest' fails same = go (cases_eq x y)
  where
    skip : (b : Bool) → f y ≡ false → list_any f rest ≡ list_any f (cond b (y ∷ rest') rest')
    skip true e = same ∙ ap (λ (c : Bool). c || list_any f rest') (sym e)
    skip false e = same

    keep : (b : Bool) → list_any f (cond b (y ∷ rest) rest) ≡ list_any f (cond b (y ∷ rest') rest')
    keep true = ap (λ (c : Bool). f y || c) same
    keep false = same

    go : (x ≡ y) ⊎ (x ≡ y → ⊥) → list_any f (cond (not (eqb x y) && r y) (y ∷ rest) rest) ≡ list_any f (cond (r y) (y ∷ rest') rest')
    go (inl e) = ap (λ (b : Bool). list_any f (cond (not b && r y) (y ∷ rest) rest)) (eq-eqb x y e) ∙ skip (r y) (ap f (sym e) ∙ fails)
    go (inr ne) = ap (λ (b : Bool). list_any f (cond (not b && r y) (y ∷ rest) rest)) (ne_eqb x y ne) ∙ keep (r y)

pub any_without : (f r : ℕ → Bool) (x : ℕ) (ys : List ℕ) → f x ≡ false → list_any f (filter (λ y. not (eqb x y) && r y) ys) ≡ list_any f (filter r ys)
any_without f r x [] fails = refl
any_without f r x (y ∷ ys) fails = any_kept f r x y (filter (λ y. not (eqb x y) && r y) ys) (filter r ys) fails (any_without f r x ys fails)

-- a partition other than the node's own is met exactly where the node is read in it
pub met_is : (n : Net) (of : List ℕ) (x p : ℕ) → (not (eqb (get_or of x 0) p) && list_any (λ y. eqb (get_or of y 0) p) (related (reads_other n) (length n.nodes) x)) ≡ (not (eqb (get_or of x 0) p) && is_read_in n of x p)
met_is n of x p = go (cases_Bool (eqb (get_or of x 0) p))
  where
    go : (eqb (get_or of x 0) p ≡ true) ⊎ (eqb (get_or of x 0) p ≡ false) → (not (eqb (get_or of x 0) p) && list_any (λ y. eqb (get_or of y 0) p) (related (reads_other n) (length n.nodes) x)) ≡ (not (eqb (get_or of x 0) p) && is_read_in n of x p)
    go (inl e) = ap (λ (b : Bool). not b && list_any (λ y. eqb (get_or of y 0) p) (related (reads_other n) (length n.nodes) x)) e ∙ sym (ap (λ (b : Bool). not b && is_read_in n of x p) e)
    go (inr e) = ap (λ (b : Bool). not (eqb (get_or of x 0) p) && b) (any_without (λ y. eqb (get_or of y 0) p) (λ y. reads n y x) x (range_with_len 0 (length n.nodes)) e)

pub foreign_is : (n : Net) (parts : PlainParts) (rows : List (List ℕ)) (x : ℕ) → Lists (reads_other n) (length n.nodes) (length n.nodes) rows → x < length n.nodes → count_below parts.count (is_met (get_or parts.of x 0) parts.of (get_or rows x []) (length (get_or rows x []))) ≡ foreign_count n parts x
unfolding foreign_count
foreign_is n parts rows x lists within =
    count_same parts.count (is_met (get_or parts.of x 0) parts.of (get_or rows x []) (length (get_or rows x []))) (λ p. not (eqb (get_or parts.of x 0) p) && is_read_in n parts.of x p)
    (λ p l. ap (λ (row : List ℕ). not (eqb (get_or parts.of x 0) p) && list_any (λ y. eqb (get_or parts.of y 0) p) row) (take_all (length (get_or rows x [])) (get_or rows x []) (omega arith) ∙ lists.row x within) ∙ met_is n parts.of x p)

pub cost_is : (n : Net) (parts : PlainParts) → cost n parts ≡ sum_below (length n.nodes) (foreign_count n parts)
unfolding cost
cost_is n parts = refl

pub product_more : (k m : ℕ) → (k + 1) * m ≡ k * m + m
product_more k m = omega arith

pub product_le : (k a m b : ℕ) → k ≤ a → m ≤ b → k * m ≤ a * b
product_le k a m b h i = grind arith
