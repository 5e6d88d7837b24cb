-- The order of the search, and that uncut reads make no loop.
use Rattle.std.proofs.Common.{◌≡◌, ℕ, ◌<◌, ◌≤◌, ◌⊎◌, List, length, get_or, sym, ◌∙◌, subst, inl, inr, arith}
use Rattle.std.specs.Prelude.{Bool}
use Rattle.std.proofs.lemmas.Bool.{cases_eq, cases_lt}
use Rattle.graph.specs.Rows.{Stands, IsOnce}
use Rattle.graph.specs.Lists.{Leads, alone, longer}
use Rattle.graph.specs.Search.{Kept, IsSearched}

-- a number has one place
pub same_place : (xs : List ℕ) (j k : ℕ) → IsOnce xs → j < length xs → k < length xs → get_or xs j 0 ≡ get_or xs k 0 → j ≡ k
same_place xs j k once jl kl e = go (cases_eq j k) (cases_lt j k)
  where
    go : (j ≡ k) ⊎ (j ≡ k → ⊥) → (j < k) ⊎ (k ≤ j) → j ≡ k
    go (inl same) l = same
    go (inr ne) (inl l) = absurd (once.apart j k l kl e)
    go (inr ne) (inr l) = absurd (once.apart k j (omega arith) jl (sym e))

module _ (rows : List (List ℕ)) (order : List ℕ) (cut : List (List Bool)) (s : IsSearched rows order cut) where
  -- where uncut reads lead from a to b, a stands no later
  pub no_later : (a b j : ℕ) → Leads (Kept rows cut) a b → j < length order → get_or order j 0 ≡ b → (i : ℕ) × (i ≤ j) × (get_or order i 0 ≡ a)
  no_later _ _ j (alone a) l e = (j, omega arith, e)
  no_later _ _ j (longer a b c before next) l e = go (λ k kl is. no_later a b k before kl is) (s.after j b l (subst (Kept rows cut b) (sym e) next))
    where
      go : ((k : ℕ) → k < length order → get_or order k 0 ≡ b → (i : ℕ) × (i ≤ k) × (get_or order i 0 ≡ a)) → (k : ℕ) × (k < j) × (get_or order k 0 ≡ b) → (i : ℕ) × (i ≤ j) × (get_or order i 0 ≡ a)
      go sooner (k, below, is) = first (sooner k (omega arith) is)
        where
          first : (i : ℕ) × (i ≤ k) × (get_or order i 0 ≡ a) → (i : ℕ) × (i ≤ j) × (get_or order i 0 ≡ a)
          first (i, under, at) = (i, omega arith, at)

  -- no loop of uncut reads
  pub open_ended : (x y : ℕ) → x < length rows → Leads (Kept rows cut) x y → Kept rows cut y x → ⊥
  open_ended x y vertex leads closes = go (s.complete x vertex)
    where
      go : Stands order x → ⊥
      go st = next (s.after st.at y st.below (subst (Kept rows cut y) (sym st.is) closes))
        where
          next : (j : ℕ) × (j < st.at) × (get_or order j 0 ≡ y) → ⊥
          next (j, l, e) = again (no_later x y j leads (let b = st.below in omega arith) e)
            where
              again : (i : ℕ) × (i ≤ j) × (get_or order i 0 ≡ x) → ⊥
              again (i, under, is) = s.once.apart i st.at (omega arith) st.below (is ∙ sym st.is)
