-- Lists that go over a row, one entry more; and pairs of entries.
use Rattle.std.proofs.Common.{◌≡◌, ℕ, suc, ◌+◌, ◌<◌, ◌≤◌, List, [], ◌∷◌, ◌++◌, length, map, drop, get_or, slice_get, Some, refl, sym, ap, ◌∙◌, append_assoc, arith}
use Rattle.std.specs.List.{flat_map, range_with_len}
use Rattle.std.proofs.lemmas.List.{append-nil, drop_all, drop_more}
use Rattle.std.proofs.lemmas.Option.{get_or_from_slice_get, slice_get_within}
use Rattle.flat_net.specs.Net.{Net, name_of}
use Rattle.dwc.specs.Guard.{twofold}

-- one entry more of a row
pub row_put : {A B : Type 0} (f : B → List A) (i : ℕ) (xs : List B) (x : B) (out new total : List A) → i < length xs → x ≡ get_or xs i x → new ≡ out ++ f x → out ++ flat_map f (drop i xs) ≡ total → new ++ flat_map f (drop (i + 1) xs) ≡ total
row_put f i xs x out new total lt is put e =
    let rest = flat_map f (drop (i + 1) xs) in
    ap (λ o. o ++ rest) put ∙ (append_assoc out (f x) rest ∙ (ap (λ y. out ++ (f y ++ rest)) is ∙ (ap (λ ys. out ++ flat_map f ys) (sym (drop_more xs i x lt)) ∙ e)))

-- none is left
pub row_done : {A B : Type 0} (f : B → List A) (i : ℕ) (xs : List B) (out total : List A) → length xs ≤ i → out ++ flat_map f (drop i xs) ≡ total → out ≡ total
row_done f i xs out total le e = sym (append-nil out) ∙ (ap (λ ys. out ++ flat_map f ys) (sym (drop_all i xs le)) ∙ e)

-- two of each entry
pub twos_same : {A B C : Type 0} (f : B → List C) (g : A → ℕ → B) (h : A → List C) (xs : List A) → ((i : ℕ) (x : A) → slice_get xs i ≡ Some x → f (g x 0) ++ f (g x 1) ≡ h x) → flat_map f (flat_map (λ x. twofold (g x)) xs) ≡ flat_map h xs
twos_same f g h [] each = refl
twos_same f g h (x ∷ xs) each =
    sym (append_assoc (f (g x 0)) (f (g x 1)) (flat_map f (flat_map (λ y. twofold (g y)) xs))) ∙ both (each 0 x refl) (twos_same f g h xs (λ i y at. each (suc i) y at))
  where
    both : {C : Type 0} {a b c d : List C} → a ≡ b → c ≡ d → a ++ c ≡ b ++ d
    both e f = cc

-- one of each entry
pub ones_same : {A C : Type 0} (f h : A → List C) (xs : List A) → ((i : ℕ) (x : A) → slice_get xs i ≡ Some x → f x ≡ h x) → flat_map f xs ≡ flat_map h xs
ones_same f h [] each = refl
ones_same f h (x ∷ xs) each = both (each 0 x refl) (ones_same f h xs (λ i y at. each (suc i) y at))
  where
    both : {C : Type 0} {a b c d : List C} → a ≡ b → c ≡ d → a ++ c ≡ b ++ d
    both e f = cc

-- a number for each entry
pub numbers_same : {A B : Type 0} (f : ℕ → B) (h : A → B) (start : ℕ) (xs : List A) → ((i : ℕ) (x : A) → slice_get xs i ≡ Some x → f (start + i) ≡ h x) → map f (range_with_len start (length xs)) ≡ map h xs
numbers_same {B = B} f h start [] each = refl
numbers_same {B = B} f h start (x ∷ xs) each =
    let here : start + 0 ≡ start = omega arith in
    both (sym (ap f here) ∙ each 0 x refl) (numbers_same f h (start + 1) xs (λ i y at. ap f (later i) ∙ each (suc i) y at))
  where
    both : {a b : B} {ps qs : List B} → a ≡ b → ps ≡ qs → a ∷ ps ≡ b ∷ qs
    both e f = cc

    later : (i : ℕ) → start + 1 + i ≡ start + suc i
    later i = omega arith

-- what the name of an output gives
pub output_put : (n : Net) (f : List ℕ → List ℕ) (k y : ℕ) (name out new total : List ℕ) → slice_get n.outputs k ≡ Some y → name ≡ name_of n y → new ≡ out ++ f name
    → out ++ flat_map (λ z. f (name_of n z)) (drop k n.outputs) ≡ total → new ++ flat_map (λ z. f (name_of n z)) (drop (k + 1) n.outputs) ≡ total
output_put n f k y name out new total at is put e =
    row_put (λ z. f (name_of n z)) k n.outputs y out new total (slice_get_within n.outputs k y at) (sym (get_or_from_slice_get n.outputs k y y at)) (put ∙ ap (λ (w : List ℕ). out ++ f w) is) e
