-- Gathering the vertices that lead to a root.
use Rattle.std.proofs.Common.{◌≡◌, ◌≢◌, ℕ, zero, suc, ◌+◌, ◌<◌, ◌⊎◌, Bool, eqb, List, [], ◌∷◌, ◌++◌, length, get_or, set, refl, sym, ◌∙◌, ap, subst, inl, inr, arith, length-append}
use Rattle.std.specs.Prelude.{cond}
use Rattle.std.proofs.lemmas.Bool.{cases_eq, eq-eqb, ne_eqb}
use Rattle.std.proofs.lemmas.List.{get_or-set_same, get_or-set_other, length-set, length_push}
use Rattle.graph.specs.Rows.{row, Stands}
use Rattle.feedback_cut.specs.Private.Gathering.{number_at, Reached, the_root, reader, IsGathered}
use Rattle.graph.proofs.Places.{stands_cases, stands_left, stands_right, stands_one, stands_last}

-- what waits is reached, if it had no number; what is new waits with its readers, or they have numbers
pub record IsGathering (readers : List (List ℕ)) (none group root : ℕ) (old numbers waiting : List ℕ) : Type 0 where
  pub long : length numbers ≡ length readers
  pub old_long : length old ≡ length readers
  pub kept : (x : ℕ) → number_at none old x ≢ none → number_at none numbers x ≡ number_at none old x
  pub gained : (x : ℕ) → number_at none old x ≡ none → number_at none numbers x ≢ none → (number_at none numbers x ≡ group) × Reached readers none old root x
  pub waits : (x : ℕ) → Stands waiting x → (x < length readers) × (number_at none old x ≡ none → Reached readers none old root x)
  pub rooted : (number_at none numbers root ≢ none) ⊎ Stands waiting root
  pub closed : (x y : ℕ) → number_at none old x ≡ none → number_at none numbers x ≢ none → Stands (row readers x) y → (number_at none numbers y ≢ none) ⊎ Stands waiting y

pub starts : (readers : List (List ℕ)) (none group root : ℕ) (old waiting : List ℕ) → root < length readers → length old ≡ length readers → number_at none old root ≡ none → waiting ≡ root ∷ [] → IsGathering readers none group root old old waiting
starts readers none group root old waiting within long fresh w = rw w (record {
  long = long;
  old_long = long;
  kept = λ x h. refl;
  gained = λ x f h. absurd (h f);
  waits = λ x s. subst (λ z. (z < length readers) × (number_at none old z ≡ none → Reached readers none old root z)) (sym (stands_one root x s)) (within, λ _. the_root);
  rooted = inr (record { at = 0; below = omega arith; is = refl });
  closed = λ x y f h s. absurd (h f);
})

-- a vertex that has a number
pub skips : (readers : List (List ℕ)) (none group root : ℕ) (old numbers waiting waiting' : List ℕ) (x : ℕ) → IsGathering readers none group root old numbers waiting → waiting ≡ waiting' ++ x ∷ [] → number_at none numbers x ≢ none → IsGathering readers none group root old numbers waiting'
skips readers none group root old numbers waiting waiting' x g w has = record {
  long = g.long;
  old_long = g.old_long;
  kept = g.kept;
  gained = g.gained;
  waits = λ z s. g.waits z (subst (λ ws. Stands ws z) (sym w) (stands_left waiting' (x ∷ []) z s));
  rooted = less root g.rooted;
  closed = λ z y f h s. less y (g.closed z y f h s);
}
  where
    less : (z : ℕ) → (number_at none numbers z ≢ none) ⊎ Stands waiting z → (number_at none numbers z ≢ none) ⊎ Stands waiting' z
    less z (inl h) = inl h
    less z (inr s) = go (stands_cases waiting' (x ∷ []) z (subst (λ ws. Stands ws z) w s))
      where
        go : Stands waiting' z ⊎ Stands (x ∷ []) z → (number_at none numbers z ≢ none) ⊎ Stands waiting' z
        go (inl t) = inr t
        go (inr t) = inl (subst (λ v. number_at none numbers v ≢ none) (sym (stands_one x z t)) has)

-- a vertex without a number gets the group's, and its readers wait
pub takes : (readers : List (List ℕ)) (none group root : ℕ) (old numbers waiting waiting' numbers' : List ℕ) (x : ℕ) → ((y i : ℕ) → i < length (row readers y) → get_or (row readers y) i 0 < length readers) → group ≢ none → IsGathering readers none group root old numbers waiting → waiting ≡ waiting' ++ x ∷ [] → number_at none numbers x ≡ none → numbers' ≡ set numbers x group → IsGathering readers none group root old numbers' (waiting' ++ row readers x)
takes readers none group root old numbers waiting waiting' numbers' x within some g w fresh n = rw n (record {
  long = length-set numbers x group ∙ g.long;
  old_long = g.old_long;
  kept = λ z h. kept z h (cases_eq z x);
  gained = λ z f h. gained z f h (cases_eq z x);
  waits = λ z s. waits z (stands_cases waiting' (row readers x) z s);
  rooted = wider root g.rooted;
  closed = λ z y f h s. closed z y f h s (cases_eq z x);
})
  where
    last : Stands waiting x
    last = subst (λ ws. Stands ws x) (sym w) (stands_last waiting' x)

    below : x < length numbers
    below = omega (arith, g.long, (g.waits x last).0)

    now : number_at none (set numbers x group) x ≡ group
    now = get_or-set_same numbers x group none below

    others : (z : ℕ) → (z ≡ x → ⊥) → number_at none (set numbers x group) z ≡ number_at none numbers z
    others z ne = get_or-set_other numbers x z group none ne

    has : number_at none (set numbers x group) x ≢ none
    has e = some (sym now ∙ e)

    -- the vertex had none before
    was : number_at none old x ≡ none
    was = go (cases_eq (number_at none old x) none)
      where
        go : (number_at none old x ≡ none) ⊎ (number_at none old x ≡ none → ⊥) → number_at none old x ≡ none
        go (inl e) = e
        go (inr ne) = absurd (ne (sym (g.kept x ne) ∙ fresh))

    reached : Reached readers none old root x
    reached = (g.waits x last).1 was

    stays : (z : ℕ) → number_at none numbers z ≢ none → number_at none (set numbers x group) z ≢ none
    stays z h e = go (cases_eq z x)
      where
        go : (z ≡ x) ⊎ (z ≡ x → ⊥) → ⊥
        go (inl f) = has (ap (number_at none (set numbers x group)) (sym f) ∙ e)
        go (inr ne) = h (sym (others z ne) ∙ e)

    kept : (z : ℕ) → number_at none old z ≢ none → (z ≡ x) ⊎ (z ≡ x → ⊥) → number_at none (set numbers x group) z ≡ number_at none old z
    kept z h (inl e) = absurd (h (ap (number_at none old) e ∙ was))
    kept z h (inr ne) = others z ne ∙ g.kept z h

    gained : (z : ℕ) → number_at none old z ≡ none → number_at none (set numbers x group) z ≢ none → (z ≡ x) ⊎ (z ≡ x → ⊥) → (number_at none (set numbers x group) z ≡ group) × Reached readers none old root z
    gained z f h (inl e) = (ap (number_at none (set numbers x group)) e ∙ now, subst (Reached readers none old root) (sym e) reached)
    gained z f h (inr ne) = let a = g.gained z f (λ e. h (others z ne ∙ e)) in (others z ne ∙ a.0, a.1)

    waits : (z : ℕ) → Stands waiting' z ⊎ Stands (row readers x) z → (z < length readers) × (number_at none old z ≡ none → Reached readers none old root z)
    waits z (inl s) = g.waits z (subst (λ ws. Stands ws z) (sym w) (stands_left waiting' (x ∷ []) z s))
    waits z (inr s) = (subst (λ v. v < length readers) s.is (within x s.at s.below), λ f. reader x z reached s f)

    wider : (z : ℕ) → (number_at none numbers z ≢ none) ⊎ Stands waiting z → (number_at none (set numbers x group) z ≢ none) ⊎ Stands (waiting' ++ row readers x) z
    wider z (inl h) = inl (stays z h)
    wider z (inr s) = go (stands_cases waiting' (x ∷ []) z (subst (λ ws. Stands ws z) w s))
      where
        go : Stands waiting' z ⊎ Stands (x ∷ []) z → (number_at none (set numbers x group) z ≢ none) ⊎ Stands (waiting' ++ row readers x) z
        go (inl t) = inr (stands_left waiting' (row readers x) z t)
        go (inr t) = inl (subst (λ v. number_at none (set numbers x group) v ≢ none) (sym (stands_one x z t)) has)

    closed : (z y : ℕ) → number_at none old z ≡ none → number_at none (set numbers x group) z ≢ none → Stands (row readers z) y → (z ≡ x) ⊎ (z ≡ x → ⊥) → (number_at none (set numbers x group) y ≢ none) ⊎ Stands (waiting' ++ row readers x) y
    closed z y f h s (inl e) = inr (stands_right waiting' (row readers x) y (subst (λ v. Stands (row readers v) y) e s))
    closed z y f h s (inr ne) = wider y (g.closed z y f (λ e. h (others z ne ∙ e)) s)

pub ends : (readers : List (List ℕ)) (none group root : ℕ) (old numbers waiting : List ℕ) → IsGathering readers none group root old numbers waiting → waiting ≡ [] → IsGathered readers none group root old numbers
ends readers none group root old numbers waiting g w = record {
  long = g.long ∙ sym g.old_long;
  kept = g.kept;
  rooted = only root g.rooted;
  gained = g.gained;
  closed = λ x y f h s. only y (g.closed x y f h s);
}
  where
    only : (z : ℕ) → (number_at none numbers z ≢ none) ⊎ Stands waiting z → number_at none numbers z ≢ none
    only z (inl h) = h
    only z (inr s) = absurd (let b = s.below in let l : length waiting ≡ 0 = ap length w in omega arith)

-- falls with each vertex that waited: the vertices without numbers and their readers
pub left : ℕ → List ℕ → List (List ℕ) → ℕ
left none [] rows = 0
left none (n ∷ numbers) [] = 0
left none (n ∷ numbers) (r ∷ rows) = cond (eqb n none) (suc (length r)) 0 + left none numbers rows

left_set : (none : ℕ) (numbers : List ℕ) (rows : List (List ℕ)) (x group : ℕ) → x < length numbers → length numbers ≡ length rows → number_at none numbers x ≡ none → group ≢ none → left none (set numbers x group) rows + suc (length (row rows x)) ≡ left none numbers rows
unfolding left
left_set none [] rows x group l e f some = absurd (omega arith)
left_set none (n ∷ numbers) [] x group l e f some = absurd (omega arith)
left_set none (n ∷ numbers) (r ∷ rows) zero group l e f some =
    let was : cond (eqb n none) (suc (length r)) 0 ≡ suc (length r) = ap (λ (b : Bool). cond b (suc (length r)) 0) (eq-eqb n none f) in
    let now : cond (eqb group none) (suc (length r)) 0 ≡ 0 = ap (λ (b : Bool). cond b (suc (length r)) 0) (ne_eqb group none some) in
    omega (arith, was, now)
left_set none (n ∷ numbers) (r ∷ rows) (suc x) group l e f some = omega (arith, left_set none numbers rows x group (omega arith) (omega arith) f some)

pub skip_less : (none : ℕ) (numbers : List ℕ) (rows : List (List ℕ)) (waiting waiting' : List ℕ) (x : ℕ) → waiting ≡ waiting' ++ x ∷ [] → left none numbers rows + length waiting' < left none numbers rows + length waiting
skip_less none numbers rows waiting waiting' x w = omega (arith, ap length w, length_push waiting' x)

pub take_less : (none group root : ℕ) (old numbers : List ℕ) (readers : List (List ℕ)) (waiting waiting' numbers' : List ℕ) (x : ℕ) → IsGathering readers none group root old numbers waiting → group ≢ none → waiting ≡ waiting' ++ x ∷ [] → number_at none numbers x ≡ none → numbers' ≡ set numbers x group → left none numbers' readers + length (waiting' ++ row readers x) < left none numbers readers + length waiting
take_less none group root old numbers readers waiting waiting' numbers' x g some w fresh n = rw n (
    let last : Stands waiting x = subst (λ ws. Stands ws x) (sym w) (stands_last waiting' x) in
    omega (arith, ap length w, length_push waiting' x, length-append waiting' (row readers x), left_set none numbers readers x group (omega (arith, g.long, (g.waits x last).0)) g.long fresh some))
