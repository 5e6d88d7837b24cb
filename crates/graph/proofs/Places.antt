-- Lists that grow at their end, marks that are set, and lists in which each number may follow the one before.
use Rattle.std.proofs.Common.{◌≡◌, ◌≢◌, ℕ, zero, suc, ◌<◌, ◌≤◌, ◌⊎◌, List, [], ◌∷◌, ◌++◌, length, get_or, set, refl, ap, sym, ◌∙◌, inl, inr, arith, length-append}
use Rattle.std.proofs.lemmas.List.{get_or-set_same, get_or-set_other, get_or_append_left, get_or_push, get_or_past, length_push}
use Rattle.std.proofs.lemmas.Bool.{cases_eq, cases_lt}
use Rattle.graph.specs.Rows.{Stands, IsOnce, Follows}
use Rattle.graph.specs.Lists.{Leads, alone, longer}
use Rattle.graph.specs.declared.searching.Mark.{Mark}
use Rattle.graph.specs.declared.searching.Mark.TheVariants.{Done}

-- what is no vertex is done
abbrev pub mark_at : List Mark → ℕ → Mark
mark_at marks x = get_or marks x Done

-- a mark that is not the last kind stands within the list
pub mark_within : (marks : List Mark) (x : ℕ) → mark_at marks x ≢ Done → x < length marks
mark_within [] x h = absurd (h refl)
mark_within (m ∷ marks) zero h = omega arith
mark_within (m ∷ marks) (suc x) h = omega (arith, mark_within marks x h)

abbrev pub SetMark : List Mark → ℕ → Mark → ℕ → Type 0
SetMark marks x m z = ((z ≡ x) × (mark_at (set marks x m) z ≡ m)) ⊎ ((z ≢ x) × (mark_at (set marks x m) z ≡ mark_at marks z))

-- the marks after one is set
pub set_marks : (marks : List Mark) (x z : ℕ) (m : Mark) → x < length marks → SetMark marks x m z
set_marks marks x z m h = go (cases_eq z x)
  where
    go : (z ≡ x) ⊎ (z ≡ x → ⊥) → SetMark marks x m z
    go (inl e) = inl (e, rw e (get_or-set_same marks x m Done h))
    go (inr ne) = inr (ne, get_or-set_other marks x z m Done ne)

pub stands_push : (xs : List ℕ) (x y : ℕ) → Stands xs x → Stands (xs ++ y ∷ []) x
stands_push xs x y s = record { at = s.at; below = omega (arith, length_push xs y, s.below); is = get_or_append_left xs (y ∷ []) 0 s.at s.below ∙ s.is }

pub stands_last : (xs : List ℕ) (y : ℕ) → Stands (xs ++ y ∷ []) y
stands_last xs y = record { at = length xs; below = omega (arith, length_push xs y); is = get_or_push xs y 0 (length xs) refl }

abbrev pub PushedAt : List ℕ → ℕ → ℕ → Type 0
PushedAt xs y k = ((k < length xs) × (get_or (xs ++ y ∷ []) k 0 ≡ get_or xs k 0)) ⊎ ((k ≡ length xs) × (get_or (xs ++ y ∷ []) k 0 ≡ y))

-- an entry of a longer list
pub push_cases : (xs : List ℕ) (y k : ℕ) → k < length (xs ++ y ∷ []) → PushedAt xs y k
push_cases xs y k h = go (cases_lt k (length xs))
  where
    go : (k < length xs) ⊎ (length xs ≤ k) → PushedAt xs y k
    go (inl l) = inl (l, get_or_append_left xs (y ∷ []) 0 k l)
    go (inr l) = let e : k ≡ length xs = omega (arith, length_push xs y) in inr (e, get_or_push xs y 0 k (sym e))

pub once_push : (xs : List ℕ) (y : ℕ) → IsOnce xs → ((k : ℕ) → k < length xs → get_or xs k 0 ≢ y) → IsOnce (xs ++ y ∷ [])
once_push xs y once new = record { apart = λ j k jk kl. go j k jk (push_cases xs y k kl) }
  where
    go : (j k : ℕ) → j < k → PushedAt xs y k → get_or (xs ++ y ∷ []) j 0 ≢ get_or (xs ++ y ∷ []) k 0
    go j k jk (inl (kl, e)) same = once.apart j k jk kl (sym (get_or_append_left xs (y ∷ []) 0 j (omega arith)) ∙ (same ∙ e))
    go j k jk (inr (kl, e)) same = new j (omega arith) (sym (get_or_append_left xs (y ∷ []) 0 j (omega arith)) ∙ (same ∙ e))

-- lists under a wider relation
pub leads_map : (N M : ℕ → ℕ → Type 0) → ((x y : ℕ) → N x y → M x y) → (a b : ℕ) → Leads N a b → Leads M a b
leads_map N M wider _ _ (alone a) = alone a
leads_map N M wider _ _ (longer a b c l next) = longer a b c (leads_map N M wider a b l) (wider b c next)

-- one list after another
pub leads_join : (N : ℕ → ℕ → Type 0) (a b c : ℕ) → Leads N a b → Leads N b c → Leads N a c
leads_join N a _ _ first (alone b) = first
leads_join N a _ _ first (longer b c d l next) = longer a c d (leads_join N a b c first l) next

-- what stands in one of two lists
pub stands_cases : (xs ys : List ℕ) (z : ℕ) → Stands (xs ++ ys) z → Stands xs z ⊎ Stands ys z
stands_cases [] ys z s = inr s
stands_cases (x ∷ xs) ys z s = go s.at s.below s.is (stands_cases xs ys z)
  where
    go : (i : ℕ) → i < length ((x ∷ xs) ++ ys) → get_or ((x ∷ xs) ++ ys) i 0 ≡ z → (Stands (xs ++ ys) z → Stands xs z ⊎ Stands ys z) → Stands (x ∷ xs) z ⊎ Stands ys z
    go zero l e rest = inl (record { at = zero; below = omega arith; is = e })
    go (suc i) l e rest = later (rest (record { at = i; below = omega arith; is = e }))
      where
        later : Stands xs z ⊎ Stands ys z → Stands (x ∷ xs) z ⊎ Stands ys z
        later (inl f) = inl (record { at = suc f.at; below = omega (arith, f.below); is = f.is })
        later (inr f) = inr f

pub stands_left : (xs ys : List ℕ) (z : ℕ) → Stands xs z → Stands (xs ++ ys) z
stands_left xs ys z s = record { at = s.at; below = omega (arith, length-append xs ys, s.below); is = get_or_append_left xs ys 0 s.at s.below ∙ s.is }

pub stands_right : (xs ys : List ℕ) (z : ℕ) → Stands ys z → Stands (xs ++ ys) z
stands_right [] ys z s = s
stands_right (x ∷ xs) ys z s = go (stands_right xs ys z s)
  where
    go : Stands (xs ++ ys) z → Stands (x ∷ xs ++ ys) z
    go f = record { at = suc f.at; below = omega (arith, f.below); is = f.is }

pub stands_one : (y z : ℕ) → Stands (y ∷ []) z → z ≡ y
stands_one y z s = go s.at s.below s.is
  where
    go : (i : ℕ) → i < length (y ∷ []) → get_or (y ∷ []) i 0 ≡ z → z ≡ y
    go zero l e = sym e
    go (suc i) l e = absurd (omega arith)

-- what reads has a row
pub reader_within : (rows : List (List ℕ)) (x y : ℕ) → Follows rows x y → y < length rows
reader_within rows x y f = go (cases_lt y (length rows))
  where
    go : (y < length rows) ⊎ (length rows ≤ y) → y < length rows
    go (inl m) = m
    go (inr m) = absurd (let none : length (get_or rows y []) ≡ 0 = ap length (get_or_past rows y [] m) in omega (arith, f.within))
