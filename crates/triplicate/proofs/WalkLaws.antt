-- The most registers of walks.
use Rattle.std.proofs.Common.{◌≡◌, ℕ, ◌+◌, ◌≤◌, List, ◌++◌, length, sym, ◌∙◌, arith}
use Rattle.std.proofs.lemmas.List.{length-append}
use Rattle.recovery_depth.specs.Walks.{Walk, IsReach}
use Rattle.recovery_depth.specs.Walks.Walk.{starts, goes_on}

pub reach_starts : (Next : ℕ → ℕ → Type 0) (own : ℕ → List ℕ) (x e : ℕ) → IsReach Next own x e → length (own x) ≤ e
reach_starts Next own x e r = r.most (own x) (starts x)

pub reach_goes_on : (Next : ℕ → ℕ → Type 0) (own : ℕ → List ℕ) (x y d e : ℕ) → IsReach Next own x d → Next x y → IsReach Next own y e → d + length (own y) ≤ e
reach_goes_on Next own x y d e r next s =
    let (seen, walk, long) = r.some in
    omega (arith, s.most (seen ++ own y) (goes_on x y seen walk next), length-append seen (own y), long)

-- walks that end alike: each step backwards from a vertex is one from each vertex that is like it, and vertices that are
-- alike have as many registers of their own
pub record AreAlike (Next Next' : ℕ → ℕ → Type 0) (own own' : ℕ → List ℕ) (Like : ℕ → ℕ → Type 0) : Type 0 where
  pub owns : (x x' : ℕ) → Like x x' → length (own x) ≡ length (own' x')
  pub steps : (x y y' : ℕ) → Like y y' → Next x y → (x' : ℕ) × (Like x x') × (Next' x' y')

-- a walk as long
pub record HasWalk (Next : ℕ → ℕ → Type 0) (own : ℕ → List ℕ) (x count : ℕ) : Type 0 where
  pub seen : List ℕ
  pub walk : Walk Next own x seen
  pub long : length seen ≡ count

pub walk_alike : (Next Next' : ℕ → ℕ → Type 0) (own own' : ℕ → List ℕ) (Like : ℕ → ℕ → Type 0) → AreAlike Next Next' own own' Like → (x : ℕ) (seen : List ℕ) → Walk Next own x seen → (x' : ℕ) → Like x x' → HasWalk Next' own' x' (length seen)
walk_alike Next Next' own own' Like are _ _ (starts x) x' like = record { seen = own' x'; walk = starts x'; long = sym (are.owns x x' like) }
walk_alike Next Next' own own' Like are _ _ (goes_on x y seen walk next) y' like =
    let (x', before, next') = are.steps x y y' like next in
    let w = walk_alike Next Next' own own' Like are x seen walk x' before in
    record {
      seen = w.seen ++ own' y';
      walk = goes_on x' y' w.seen w.walk next';
      long = omega (arith, length-append w.seen (own' y'), length-append seen (own y), w.long, are.owns y y' like);
    }

-- the most registers are as many, where walks are alike both ways
pub reach_alike : (Next Next' : ℕ → ℕ → Type 0) (own own' : ℕ → List ℕ) (Like Like' : ℕ → ℕ → Type 0) → AreAlike Next Next' own own' Like → AreAlike Next' Next own' own Like' → (x x' e : ℕ) → Like x x' → Like' x' x → IsReach Next own x e → IsReach Next' own' x' e
reach_alike Next Next' own own' Like Like' there back x x' e like like' r =
    let (seen, walk, long) = r.some in
    let w = walk_alike Next Next' own own' Like there x seen walk x' like in
    record {
      some = (w.seen, w.walk, w.long ∙ long);
      most = λ other walk'. let v = walk_alike Next' Next own' own Like' back x' other walk' x like' in omega (arith, r.most v.seen v.walk, v.long);
    }
