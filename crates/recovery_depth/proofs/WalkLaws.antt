-- Walks under two relations that say the same.
use Rattle.std.proofs.Common.{◌≡◌, ℕ, ◌≤◌, List, ◌++◌, length, sym, ◌∙◌, arith, length-append}
use Rattle.recovery_depth.specs.Walks.{Walk, starts, goes_on, IsReach}

-- a walk under a wider relation, whose registers are as many
pub walk_map : (N M : ℕ → ℕ → Type 0) (own mine : ℕ → List ℕ) → ((x y : ℕ) → N x y → M x y) → ((x : ℕ) → length (mine x) ≡ length (own x)) → (x : ℕ) (seen : List ℕ) → Walk N own x seen → (other : List ℕ) × (Walk M mine x other) × (length other ≡ length seen)
walk_map N M own mine wider same _ _ (starts x) = (mine x, starts x, same x)
walk_map N M own mine wider same _ _ (goes_on x y seen w next) = go (walk_map N M own mine wider same x seen w)
  where
    go : (other : List ℕ) × (Walk M mine x other) × (length other ≡ length seen) → (other : List ℕ) × (Walk M mine y other) × (length other ≡ length (seen ++ own y))
    go (other, v, e) = (other ++ mine y, goes_on x y other v (wider x y next), omega (arith, length-append other (mine y), length-append seen (own y), same y, e))

pub reach_map : (N M : ℕ → ℕ → Type 0) (own mine : ℕ → List ℕ) → ((x y : ℕ) → N x y → M x y) → ((x y : ℕ) → M x y → N x y) → ((x : ℕ) → length (mine x) ≡ length (own x)) → (x r : ℕ) → IsReach N own x r → IsReach M mine x r
reach_map N M own mine there back same x r reach = record { some = some reach.some; most = λ seen w. most seen (walk_map M N mine own back (λ z. sym (same z)) x seen w) }
  where
    some : (seen : List ℕ) × (Walk N own x seen) × (length seen ≡ r) → (seen : List ℕ) × (Walk M mine x seen) × (length seen ≡ r)
    some (seen, w, e) = go (walk_map N M own mine there same x seen w)
      where
        go : (other : List ℕ) × (Walk M mine x other) × (length other ≡ length seen) → (seen : List ℕ) × (Walk M mine x seen) × (length seen ≡ r)
        go (other, v, f) = (other, v, f ∙ e)

    most : (seen : List ℕ) → (other : List ℕ) × (Walk N own x other) × (length other ≡ length seen) → length seen ≤ r
    most seen (other, v, e) = omega (arith, e, reach.most other v)
