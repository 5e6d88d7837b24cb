-- What a list of reached models keeps while it grows.
use Rattle.std.proofs.Common.{◌≡◌, ℕ, zero, suc, ◌+◌, ◌<◌, ◌≤◌, ◌⊎◌, ◌↔◌, Bool, true, false, cond, List, [], ◌∷◌, ◌++◌, length, take, get_or, refl, sym, subst, ◌∙◌, inl, inr, arith, nat_eq, eqb}
use Rattle.std.specs.Prelude.{Contains}
use Rattle.std.specs.List.{list_any, IsDistinct}
use Rattle.std.proofs.lemmas.Map.Steps.{length-le_from_distinct_below}
use Rattle.std.proofs.lemmas.Bool.{cases_lt, eqb-true, eq-eqb}
use Rattle.std.proofs.lemmas.List.{get_or_append_left, get_or_push, length_push, take_more, take_all, get_or_default}
use Rattle.std.proofs.lemmas.List.Elements.{Contains-append_left, Contains-append_right, Contains-append_cases}
use Rattle.std.proofs.lemmas.List.Folds.{list_any_at}
use Rattle.indexmap.proofs.CallerLemmas.{Contains-list_any}
use Rattle.indexmap.specs.IndexSet.{insert_key}
use Rattle.library_faults.specs.Private.Growth.{Gains}
use Rattle.library_faults.specs.Graph.{Reached, main, placed, row}
use Rattle.library_faults.specs.Private.Rows.{AreWithin}

nat_same : (x y : ℕ) → nat_eq x y ≡ true → x ≡ y
nat_same x y e = eqb-true x y e

nat_self : (x : ℕ) → nat_eq x x ≡ true
nat_self x = eq-eqb x x refl

pub listed : (xs : List ℕ) (x : ℕ) → list_any (nat_eq x) xs ≡ true → Contains xs x
listed xs x e = Contains-list_any nat_eq nat_same xs x e

pub listing : (xs : List ℕ) (x : ℕ) → Contains xs x → list_any (nat_eq x) xs ≡ true
listing xs x (k, below, is) = list_any_at (nat_eq x) xs k x below (rw is (nat_self x))

one_is : (x y : ℕ) → Contains (x ∷ []) y → y ≡ x
one_is x y (zero, below, is) = sym is
one_is x y (suc k, below, is) = absurd (omega arith)

one_has : (x : ℕ) → Contains (x ∷ []) x
one_has x = (zero, omega arith, refl)

pub gains_none : (old : List ℕ) → Gains old [] old
gains_none old = record {
  longer = omega arith;
  stays = λ k h. refl;
  has = λ x c. absurd (let below : c.0 < 0 = c.1 in omega arith);
  only = λ k low high. absurd (omega arith);
}

pub gains_one : (old seen keys : List ℕ) (x : ℕ) → Gains old seen keys → Gains old (seen ++ x ∷ []) (insert_key nat_eq keys x)
gains_one old seen keys x g = go (list_any (nat_eq x) keys) refl
  where
    go : (b : Bool) → list_any (nat_eq x) keys ≡ b → Gains old (seen ++ x ∷ []) (cond b keys (keys ++ x ∷ []))
    go true e = record {
      longer = g.longer;
      stays = g.stays;
      has = λ y c. old_or_new y (Contains-append_cases seen (x ∷ []) y c);
      only = λ k low high. Contains-append_left seen (x ∷ []) _ (g.only k low high);
    }
      where
        old_or_new : (y : ℕ) → Contains seen y ⊎ Contains (x ∷ []) y → Contains keys y
        old_or_new y (inl c) = g.has y c
        old_or_new y (inr c) = subst (Contains keys) (sym (one_is x y c)) (listed keys x e)
    go false e = record {
      longer = let l = g.longer in omega (arith, length_push keys x);
      stays = λ k h. get_or_append_left keys (x ∷ []) 0 k (let l = g.longer in omega arith) ∙ g.stays k h;
      has = λ y c. old_or_new y (Contains-append_cases seen (x ∷ []) y c);
      only = λ k low high. only k low (cases_lt k (length keys)) high;
    }
      where
        old_or_new : (y : ℕ) → Contains seen y ⊎ Contains (x ∷ []) y → Contains (keys ++ x ∷ []) y
        old_or_new y (inl c) = Contains-append_left keys (x ∷ []) y (g.has y c)
        old_or_new y (inr c) = Contains-append_right keys (x ∷ []) y c

        only : (k : ℕ) → length old ≤ k → (k < length keys) ⊎ (length keys ≤ k) → k < length (keys ++ x ∷ []) → Contains (seen ++ x ∷ []) (get_or (keys ++ x ∷ []) k 0)
        only k low (inl l) high = subst (Contains (seen ++ x ∷ [])) (sym (get_or_append_left keys (x ∷ []) 0 k l)) (Contains-append_left seen (x ∷ []) _ (g.only k low l))
        only k low (inr l) high =
            let last : length keys ≡ k = omega (arith, length_push keys x) in
            subst (Contains (seen ++ x ∷ [])) (sym (get_or_push keys x 0 k last)) (Contains-append_right seen (x ∷ []) x (one_has x))

pub gains_more : (old row keys : List ℕ) (i x : ℕ) → i < length row → x ≡ get_or row i x → Gains old (take i row) keys → Gains old (take (i + 1) row) (insert_key nat_eq keys x)
gains_more old row keys i x below is g = rw (take_more row i x below, ← is) (gains_one old (take i row) keys x g)

pub gains_all : (old row keys : List ℕ) (i : ℕ) → length row ≤ i → Gains old (take i row) keys → Gains old row keys
gains_all old row keys i all g = subst (λ r. Gains old r keys) (take_all i row all) g

-- what is reached so far, where the rows of those before `at` are there
pub record IsReaching (graph : List (List ℕ)) (at : ℕ) (keys : List ℕ) : Type 0 where
  pub first : Contains keys 0
  pub order : at ≤ length keys
  pub sound : (k : ℕ) → k < length keys → Reached graph (get_or keys k 0)
  pub within : (k : ℕ) → k < length keys → get_or keys k 0 < length graph
  pub closed : (k y : ℕ) → k < at → Contains (row graph (get_or keys k 0)) y → Contains keys y

pub reaching_first : (graph : List (List ℕ)) → 0 < length graph → IsReaching graph 0 (0 ∷ [])
reaching_first graph some = record {
  first = one_has 0;
  order = omega arith;
  sound = λ k h. sound k h;
  within = λ k h. within k h;
  closed = λ k y h c. absurd (omega arith);
}
  where
    sound : (k : ℕ) → k < 1 → Reached graph (get_or (0 ∷ []) k 0)
    sound zero h = main
    sound (suc k) h = absurd (omega arith)

    within : (k : ℕ) → k < 1 → get_or (0 ∷ []) k 0 < length graph
    within zero h = some
    within (suc k) h = absurd (omega arith)

pub reaching_more : (graph : List (List ℕ)) (at x : ℕ) (keys new : List ℕ) → AreWithin graph → at < length keys → x ≡ get_or keys at 0 → IsReaching graph at keys → Gains keys (row graph x) new → IsReaching graph (at + 1) new
reaching_more graph at x keys new fits below is r g = record {
  first = kept 0 r.first;
  order = let l = g.longer in omega arith;
  sound = λ k h. sound k (cases_lt k (length keys)) h;
  within = λ k h. within k (cases_lt k (length keys)) h;
  closed = λ k y h c. closed k y (cases_lt k at) h c;
}
  where
    here : get_or keys at 0 ≡ x
    here = sym is

    kept : (y : ℕ) → Contains keys y → Contains new y
    kept y (k, h, e) = (k, (let l = g.longer in omega arith), get_or_default new k y 0 (let l = g.longer in omega arith) ∙ (g.stays k h ∙ (get_or_default keys k 0 y h ∙ e)))

    x_within : x < length graph
    x_within = rw here at (r.within at below)

    sound : (k : ℕ) → (k < length keys) ⊎ (length keys ≤ k) → k < length new → Reached graph (get_or new k 0)
    sound k (inl l) h = subst (Reached graph) (sym (g.stays k l)) (r.sound k l)
    sound k (inr l) h = placed x (get_or new k 0) (rw here at (r.sound at below)) (g.only k l h)

    within : (k : ℕ) → (k < length keys) ⊎ (length keys ≤ k) → k < length new → get_or new k 0 < length graph
    within k (inl l) h = let e = g.stays k l in let w = r.within k l in omega arith
    within k (inr l) h = row_within (g.only k l h)
      where
        row_within : Contains (row graph x) (get_or new k 0) → get_or new k 0 < length graph
        row_within (j, b, e) = rw e at (fits x [] x_within j (get_or new k 0) b)

    closed : (k y : ℕ) → (k < at) ⊎ (at ≤ k) → k < at + 1 → Contains (row graph (get_or new k 0)) y → Contains new y
    closed k y (inl l) h c = kept y (r.closed k y l (let same = g.stays k (let o = r.order in omega arith) in rw same at c))
    closed k y (inr l) h c =
        let same : k ≡ at = omega arith in
        let e = g.stays at below in
        g.has y (rw (same, e, here) at c)

-- there are no more than there are models
pub reaching_less : (graph : List (List ℕ)) (at : ℕ) (keys : List ℕ) → IsDistinct eqb keys → IsReaching graph at keys → at < length keys → at < length graph
reaching_less graph at keys unique r below = omega (arith, length-le_from_distinct_below keys (length graph) unique (λ q e. among q (listed keys q e)))
  where
    among : (q : ℕ) → Contains keys q → q < length graph
    among q (k, h, is) = let e : get_or keys k 0 ≡ q = get_or_default keys k 0 q h ∙ is in let w = r.within k h in omega arith

-- nothing is left to follow
pub reaching_all : (graph : List (List ℕ)) (at : ℕ) (keys : List ℕ) → IsReaching graph at keys → length keys ≤ at → (x : ℕ) → (list_any (nat_eq x) keys ≡ true) ↔ Reached graph x
reaching_all graph at keys r all x = (λ e. sound (listed keys x e), λ d. listing keys x (complete x d))
  where
    sound : Contains keys x → Reached graph x
    sound (k, below, is) = subst (Reached graph) (get_or_default keys k 0 x below ∙ is) (r.sound k below)

    complete : (y : ℕ) → Reached graph y → Contains keys y
    complete _ main = r.first
    complete _ (placed z y d c) = follow (complete z d)
      where
        follow : Contains keys z → Contains keys y
        follow (k, below, is) = r.closed k y (omega arith) (subst (λ v. Contains (row graph v) y) (sym (get_or_default keys k 0 z below ∙ is)) c)
