-- The rows of readers, one read at a time.
use Rattle.std.proofs.Common.{◌≡◌, ℕ, ◌+◌, ◌<◌, ◌≤◌, ◌⊎◌, List, [], ◌∷◌, ◌++◌, length, get_or, set, replicate, sym, ◌∙◌, ap, subst, inl, inr, arith}
use Rattle.std.proofs.lemmas.Bool.{cases_eq, cases_lt}
use Rattle.std.proofs.lemmas.List.{get_or-set_same, get_or-set_other, get_or_past, get_or-replicate, length-set, length-replicate}
use Rattle.graph.specs.Rows.{row, Stands, Follows}
use Rattle.graph.specs.Readers.{AreReaders}
use Rattle.graph.specs.Private.Listing.{StandsBefore, ListsTo}
use Rattle.graph.proofs.Places.{PushedAt, push_cases, stands_push, stands_last, reader_within}

-- a place before the next one
before_cases : (k j y place : ℕ) → StandsBefore k (j + 1) y place → StandsBefore k j y place ⊎ ((y ≡ k) × (place ≡ j))
before_cases k j y place (inl l) = inl (inl l)
before_cases k j y place (inr e) = go (cases_eq place j)
  where
    go : (place ≡ j) ⊎ (place ≡ j → ⊥) → StandsBefore k j y place ⊎ ((y ≡ k) × (place ≡ j))
    go (inl f) = inr (e.0, f)
    go (inr ne) = inl (inr (e.0, omega (arith, e.1, ne)))

-- what stands there is no vertex
pub passes : (rows : List (List ℕ)) (k j x : ℕ) (readers : List (List ℕ)) → ListsTo rows k j readers → get_or (row rows k) j 0 ≡ x → length rows ≤ x → ListsTo rows k (j + 1) readers
passes rows k j x readers t is past = record {
  long = t.long;
  listed = λ z y place zl l e b. go z y place zl l e (before_cases k j y place b);
  only = t.only;
}
  where
    go : (z y place : ℕ) → z < length rows → place < length (row rows y) → get_or (row rows y) place 0 ≡ z → StandsBefore k j y place ⊎ ((y ≡ k) × (place ≡ j)) → Stands (row readers z) y
    go z y place zl l e (inl b) = t.listed z y place zl l e b
    go z y place zl l e (inr b) =
        let at : get_or (row rows y) place 0 ≡ x = ap (λ v. get_or (row rows v) place 0) b.0 ∙ (ap (λ p. get_or (row rows k) p 0) b.1 ∙ is) in
        absurd (omega (arith, e, at, zl, past))

pub notes : (rows : List (List ℕ)) (k j x : ℕ) (readers readers' : List (List ℕ)) → ListsTo rows k j readers → j < length (row rows k) → get_or (row rows k) j 0 ≡ x → x < length rows → readers' ≡ set readers x (row readers x ++ k ∷ []) → ListsTo rows k (j + 1) readers'
notes rows k j x readers readers' t jl is vertex r = rw r (record {
  long = length-set readers x (row readers x ++ k ∷ []) ∙ t.long;
  listed = λ z y place zl l e b. listed z y place zl l e (before_cases k j y place b);
  only = λ z i l. only z i l (cases_eq z x);
})
  where
    now : row (set readers x (row readers x ++ k ∷ [])) x ≡ row readers x ++ k ∷ []
    now = get_or-set_same readers x (row readers x ++ k ∷ []) [] (omega (arith, t.long, vertex))

    others : (z : ℕ) → (z ≡ x → ⊥) → row (set readers x (row readers x ++ k ∷ [])) z ≡ row readers z
    others z ne = get_or-set_other readers x z (row readers x ++ k ∷ []) [] ne

    wider : (z y : ℕ) → Stands (row readers z) y → Stands (row (set readers x (row readers x ++ k ∷ [])) z) y
    wider z y s = go (cases_eq z x)
      where
        go : (z ≡ x) ⊎ (z ≡ x → ⊥) → Stands (row (set readers x (row readers x ++ k ∷ [])) z) y
        go (inr ne) = subst (λ v. Stands v y) (sym (others z ne)) s
        go (inl e) = subst (λ v. Stands (row (set readers x (row readers x ++ k ∷ [])) v) y) (sym e) (subst (λ v. Stands v y) (sym now) (stands_push (row readers x) y k (subst (λ v. Stands (row readers v) y) e s)))

    listed : (z y place : ℕ) → z < length rows → place < length (row rows y) → get_or (row rows y) place 0 ≡ z → StandsBefore k j y place ⊎ ((y ≡ k) × (place ≡ j)) → Stands (row (set readers x (row readers x ++ k ∷ [])) z) y
    listed z y place zl l e (inl b) = wider z y (t.listed z y place zl l e b)
    listed z y place zl l e (inr b) =
        let at : x ≡ z = sym (ap (λ v. get_or (row rows v) place 0) b.0 ∙ (ap (λ p. get_or (row rows k) p 0) b.1 ∙ is)) ∙ e in
        subst (λ v. Stands (row (set readers x (row readers x ++ k ∷ [])) v) y) at (subst (λ v. Stands (row (set readers x (row readers x ++ k ∷ [])) x) v) (sym b.0) (subst (λ v. Stands v k) (sym now) (stands_last (row readers x) k)))

    here : Follows rows x k
    here = record { place = j; within = jl; is = is; vertex = vertex }

    only : (z i : ℕ) → i < length (row (set readers x (row readers x ++ k ∷ [])) z) → (z ≡ x) ⊎ (z ≡ x → ⊥) → Follows rows z (get_or (row (set readers x (row readers x ++ k ∷ [])) z) i 0)
    only z i l (inr ne) = subst (λ v. Follows rows z (get_or v i 0)) (sym (others z ne)) (t.only z i (subst (λ v. i < length v) (others z ne) l))
    only z i l (inl e) = subst (λ v. Follows rows v (get_or (row (set readers x (row readers x ++ k ∷ [])) v) i 0)) (sym e) (subst (λ v. Follows rows x (get_or v i 0)) (sym now) (which (push_cases (row readers x) k i (subst (λ v. i < length v) now (subst (λ v. i < length (row (set readers x (row readers x ++ k ∷ [])) v)) e l)))))
      where
        which : PushedAt (row readers x) k i → Follows rows x (get_or (row readers x ++ k ∷ []) i 0)
        which (inl p) = subst (Follows rows x) (sym p.1) (t.only x i p.0)
        which (inr p) = subst (Follows rows x) (sym p.1) here

-- the next row
pub next_row : (rows : List (List ℕ)) (k j : ℕ) (readers : List (List ℕ)) → ListsTo rows k j readers → length (row rows k) ≤ j → ListsTo rows (k + 1) 0 readers
next_row rows k j readers t all = record {
  long = t.long;
  listed = λ x y place xl l e b. t.listed x y place xl l e (go y place l b);
  only = t.only;
}
  where
    go : (y place : ℕ) → place < length (row rows y) → StandsBefore (k + 1) 0 y place → StandsBefore k j y place
    go y place l (inr b) = absurd (omega (arith, b.1))
    go y place l (inl b) = which (cases_eq y k)
      where
        which : (y ≡ k) ⊎ (y ≡ k → ⊥) → StandsBefore k j y place
        which (inl e) = inr (e, let m : place < length (row rows k) = subst (λ v. place < length (row rows v)) e l in omega (arith, m, all))
        which (inr ne) = inl (omega (arith, b, ne))

pub none_listed : (rows : List (List ℕ)) (count : ℕ) (readers : List (List ℕ)) → count ≡ length rows → readers ≡ replicate count [] → ListsTo rows 0 0 readers
none_listed rows count readers n e = rw e (record {
  long = length-replicate {A = List ℕ} count [] ∙ n;
  listed = λ x y place xl l f b. never x y place b;
  only = λ x i l. absurd (omega (arith, l, empty x));
})
  where
    empty : (x : ℕ) → length (row {A = ℕ} (replicate count []) x) ≡ 0
    empty x = go (cases_lt x count)
      where
        go : (x < count) ⊎ (count ≤ x) → length (row {A = ℕ} (replicate count []) x) ≡ 0
        go (inl l) = ap length (get_or-replicate count x [] [] l)
        go (inr l) = ap length (get_or_past (replicate count []) x [] (omega (arith, length-replicate {A = List ℕ} count [])))

    never : (x y place : ℕ) → StandsBefore 0 0 y place → Stands (row {A = ℕ} (replicate count []) x) y
    never x y place (inl l) = absurd (omega (arith, l))
    never x y place (inr l) = absurd (omega (arith, l.1))

pub all_listed : (rows : List (List ℕ)) (k : ℕ) (readers : List (List ℕ)) → ListsTo rows k 0 readers → length rows ≤ k → AreReaders rows readers
all_listed rows k readers t l = record {
  long = t.long;
  listed = λ x y f. t.listed x y f.place f.vertex f.within f.is (inl (let w = reader_within rows x y f in omega (arith, w, l)));
  only = t.only;
}
