-- What holds of each plain form holds of an item's.
use Rattle.std.proofs.Common.{◌≡◌, ℕ, zero, ◌<◌, ◌≤◌, ◌+◌, List, [], ◌∷◌, ◌++◌, length, get_or, drop, map, sym, ap, ◌∙◌, subst, arith, suc, add-one, append_assoc}
use Rattle.std.specs.Prelude.{All, flat_map}
use Rattle.std.proofs.Math.Seq.{drop-cons}
use Rattle.std.proofs.lemmas.List.{get_or-map, length-map}
use Rattle.std.proofs.lemmas.List.Elements.{All-cons, All-nil, All-head, All-tail}

pub item_has : {A B : Type 0} (P : B → Type 0) (f : A → B) (xs : List A) (i : ℕ) (x : A) → All P (map f xs) → i < length xs → x ≡ get_or xs i x → P (f x)
item_has P f xs i x all below is = subst P (get_or-map f xs i x (f x) below ∙ ap f (sym is)) (all i (f x) (omega (arith, length-map xs f)))

pub first_has : {A B : Type 0} (P : B → Type 0) (f : A → B) (xs : List A) (x : A) (rest : List A) → All P (map f xs) → xs ≡ x ∷ rest → P (f x)
first_has P f xs x rest all is = All-head P (f x) (map f rest) (subst (λ ys. All P (map f ys)) is all)

pub rest_has : {A B : Type 0} (P : B → Type 0) (f : A → B) (xs : List A) (x : A) (rest : List A) → All P (map f xs) → xs ≡ x ∷ rest → All P (map f rest)
rest_has P f xs x rest all is = All-tail P (f x) (map f rest) (subst (λ ys. All P (map f ys)) is all)

pub all_map : {A B : Type 0} (P : B → Type 0) (f : A → B) (xs : List A) → ((x : A) → P (f x)) → All P (map f xs)
all_map P f [] h = All-nil P
all_map P f (x ∷ xs) h = All-cons P (f x) (map f xs) (h x) (all_map P f xs h)

-- one item more is gone through, and what it gives is behind what those before it gave
pub flat_more : {A B C : Type 0} (f : B → List C) (g : A → B) (xs : List A) (i : ℕ) (x : A) (old new whole : List C) → i < length xs → x ≡ get_or xs i x → new ≡ old ++ f (g x) → old ++ flat_map f (map g (drop i xs)) ≡ whole → new ++ flat_map f (map g (drop (i + 1) xs)) ≡ whole
flat_more f g xs i x old new whole below is more so_far = ap (λ n. n ++ flat_map f (map g (drop (i + 1) xs))) more ∙ (append_assoc old (f (g x)) (flat_map f (map g (drop (i + 1) xs))) ∙ (ap (λ r. old ++ r) rest ∙ so_far))
  where
    here : drop i xs ≡ x ∷ drop (i + 1) xs
    here = rw add-one (drop-cons xs i x below ∙ ap (λ y. y ∷ drop (suc i) xs) (sym is))

    rest : f (g x) ++ flat_map f (map g (drop (i + 1) xs)) ≡ flat_map f (map g (drop i xs))
    rest = sym (ap (λ ys. flat_map f (map g ys)) here)

-- the first of the items that are left, and those behind it
pub next_left : {X : Type 0} (n : ℕ) (all : List X) (first default : X) (rest : List X) → first ∷ rest ≡ drop n all → (n < length all) × (get_or all n default ≡ first) × (rest ≡ drop (suc n) all)
next_left zero [] first default rest e = absurd cc
next_left zero (x ∷ all) first default rest e = (omega arith, cc, cc)
next_left (suc n) [] first default rest e = absurd cc
next_left (suc n) (x ∷ all) first default rest e = let r = next_left n all first default rest e in ((let b = r.0 in omega arith), r.1, r.2)

-- none is left
pub none_left : {X : Type 0} (n : ℕ) (all : List X) → [] ≡ drop n all → length all ≤ n
none_left zero [] e = omega arith
none_left zero (x ∷ all) e = absurd cc
none_left (suc n) [] e = omega arith
none_left (suc n) (x ∷ all) e = let r = none_left n all e in omega arith
