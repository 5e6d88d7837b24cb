-- The greatest of some numbers, one more at a time.
use Rattle.std.proofs.Common.{◌≡◌, ℕ, ◌+◌, ◌<◌, ◌≤◌, ◌⊎◌, List, length, get_or, set, replicate, refl, sym, ◌∙◌, ap, subst, inl, inr, arith}
use Rattle.std.proofs.lemmas.Bool.{cases_eq}
use Rattle.std.proofs.lemmas.List.{get_or-set_same, get_or-set_other, length-set, length-replicate, get_or-replicate}
use Rattle.tmr_base.specs.Parts.{PlainParts}
use Rattle.recovery_depth.specs.Depths.{IsDepth}

-- g is the greatest of the first k numbers, or 0
pub record IsMost (f : ℕ → ℕ) (k g : ℕ) : Type 0 where
  pub most : (i : ℕ) → i < k → f i ≤ g
  pub some : (g ≡ 0) ⊎ ((i : ℕ) × (i < k) × (f i ≡ g))

pub none_most : (f : ℕ → ℕ) → IsMost f 0 0
none_most f = record { most = λ i h. absurd (omega arith); some = inl refl }

later : (j k : ℕ) → j < k + 1 → (j ≡ k) ⊎ (j < k)
later j k h = go (cases_eq j k)
  where
    go : (j ≡ k) ⊎ (j ≡ k → ⊥) → (j ≡ k) ⊎ (j < k)
    go (inl e) = inl e
    go (inr ne) = inr (omega (arith, ne))

pub more_most : (f : ℕ → ℕ) (k g r g' : ℕ) → IsMost f k g → f k ≡ r → g ≤ g' → r ≤ g' → (g' ≡ g) ⊎ (g' ≡ r) → IsMost f (k + 1) g'
more_most f k g r g' m at first second one = record { most = λ i h. most i (later i k h); some = some one }
  where
    most : (i : ℕ) → (i ≡ k) ⊎ (i < k) → f i ≤ g'
    most i (inl e) = let v : f i ≡ r = ap f e ∙ at in omega (arith, v, second)
    most i (inr l) = omega (arith, m.most i l, first)

    older : g' ≡ g → (g ≡ 0) ⊎ ((i : ℕ) × (i < k) × (f i ≡ g)) → (g' ≡ 0) ⊎ ((i : ℕ) × (i < k + 1) × (f i ≡ g'))
    older e (inl z) = inl (e ∙ z)
    older e (inr (i, l, v)) = inr (i, omega (arith, l), v ∙ sym e)

    some : (g' ≡ g) ⊎ (g' ≡ r) → (g' ≡ 0) ⊎ ((i : ℕ) × (i < k + 1) × (f i ≡ g'))
    some (inl e) = older e m.some
    some (inr e) = inr (k, omega arith, at ∙ sym e)

-- the depths so far
pub record AreSoFar (parts : PlainParts) (labels depths : List ℕ) (k : ℕ) : Type 0 where
  pub long : length depths ≡ parts.count
  pub each : (p : ℕ) → p < parts.count → IsDepth parts labels k p (get_or depths p 0)

pub none_so_far : (parts : PlainParts) (labels depths : List ℕ) (count : ℕ) → count ≡ parts.count → depths ≡ replicate count 0 → AreSoFar parts labels depths 0
none_so_far parts labels depths count n e = rw e (record {
  long = length-replicate {A = ℕ} count 0 ∙ n;
  each = λ p h. record { most = λ x l _. absurd (omega arith); some = inl (get_or-replicate count p 0 0 (omega (arith, n, h))) };
})

pub one_more_label : (parts : PlainParts) (labels depths : List ℕ) (k p r d : ℕ) (depths' : List ℕ) → AreSoFar parts labels depths k → get_or parts.of k 0 ≡ p → p < parts.count → get_or labels k 0 ≡ r → get_or depths p 0 ≤ d → r ≤ d → (d ≡ get_or depths p 0) ⊎ (d ≡ r) → depths' ≡ set depths p d → AreSoFar parts labels depths' (k + 1)
one_more_label parts labels depths k p r d depths' s of_k within at first second one e = rw e (record {
  long = length-set depths p d ∙ s.long;
  each = λ q h. each q h (cases_eq q p);
})
  where
    same : get_or (set depths p d) p 0 ≡ d
    same = get_or-set_same depths p d 0 (omega (arith, s.long, within))

    here : IsDepth parts labels (k + 1) p d
    here = record { most = λ x l o. most x o (later x k l); some = some one }
      where
        most : (x : ℕ) → get_or parts.of x 0 ≡ p → (x ≡ k) ⊎ (x < k) → get_or labels x 0 ≤ d
        most x o (inl e) = let v : get_or labels x 0 ≡ r = ap (λ z. get_or labels z 0) e ∙ at in omega (arith, v, second)
        most x o (inr l) = omega (arith, (s.each p within).most x l o, first)

        older : d ≡ get_or depths p 0 → (get_or depths p 0 ≡ 0) ⊎ ((x : ℕ) × (x < k) × (get_or parts.of x 0 ≡ p) × (get_or labels x 0 ≡ get_or depths p 0)) → (d ≡ 0) ⊎ ((x : ℕ) × (x < k + 1) × (get_or parts.of x 0 ≡ p) × (get_or labels x 0 ≡ d))
        older e (inl z) = inl (e ∙ z)
        older e (inr (x, l, o, v)) = inr (x, omega (arith, l), o, v ∙ sym e)

        some : (d ≡ get_or depths p 0) ⊎ (d ≡ r) → (d ≡ 0) ⊎ ((x : ℕ) × (x < k + 1) × (get_or parts.of x 0 ≡ p) × (get_or labels x 0 ≡ d))
        some (inl e) = older e (s.each p within).some
        some (inr e) = inr (k, omega arith, of_k, at ∙ sym e)

    each : (q : ℕ) → q < parts.count → (q ≡ p) ⊎ (q ≡ p → ⊥) → IsDepth parts labels (k + 1) q (get_or (set depths p d) q 0)
    each q h (inl e) = subst (λ z. IsDepth parts labels (k + 1) z (get_or (set depths p d) z 0)) (sym e) (subst (IsDepth parts labels (k + 1) p) (sym same) here)
    each q h (inr ne) = subst (IsDepth parts labels (k + 1) q) (sym (get_or-set_other depths p q d 0 ne)) (record { most = λ x l o. most x o (later x k l); some = some old.some })
      where
        old : IsDepth parts labels k q (get_or depths q 0)
        old = s.each q h

        most : (x : ℕ) → get_or parts.of x 0 ≡ q → (x ≡ k) ⊎ (x < k) → get_or labels x 0 ≤ get_or depths q 0
        most x o (inl e) = absurd (ne (sym o ∙ (ap (λ z. get_or parts.of z 0) e ∙ of_k)))
        most x o (inr l) = old.most x l o

        some : (get_or depths q 0 ≡ 0) ⊎ ((x : ℕ) × (x < k) × (get_or parts.of x 0 ≡ q) × (get_or labels x 0 ≡ get_or depths q 0)) → (get_or depths q 0 ≡ 0) ⊎ ((x : ℕ) × (x < k + 1) × (get_or parts.of x 0 ≡ q) × (get_or labels x 0 ≡ get_or depths q 0))
        some (inl z) = inl z
        some (inr (x, l, o, v)) = inr (x, omega (arith, l), o, v)
