-- Sets of numbers kept in a vector.
use Rattle.std.proofs.Common.{◌≡◌, ℕ, ◌<◌, ◌⊎◌, inl, inr, Bool, true, false, cond, eqb, ltb, ◌||◌, List, [], ◌∷◌, ◌++◌, length, set, get_or, sym, ◌∙◌, ap, subst, arith}
use Rattle.std.specs.List.{list_any, All}
use Rattle.std.specs.Ordering.{is_eq, nat_cmp}
use Rattle.std.specs.declared.cmp.Ordering.TheVariants.{Less, Equal, Greater}
use Rattle.std.specs.BTreeSet.{BTreeSet, keys}
use Rattle.std.proofs.lemmas.Bool.{cases_Bool, eqb-true, ltb-true, true≢false}
use Rattle.std.proofs.lemmas.List.{map-set, map_push, get_or-map, length-map}
use Rattle.std.proofs.lemmas.List.Elements.{All-head, All-tail}
use Rattle.partitioner.specs.Private.Places.{ArePlaced, placed_rows}
use Rattle.partitioner.specs.Private.Sets.{has, lists_of}
use Rattle.partitioner.proofs.PlacedLaws.{row_behind, row_changed}

-- numbers compare equal where they are the same
pub same_number : (q c : ℕ) → is_eq (nat_cmp q c) ≡ eqb q c
same_number q c = go (cases_Bool (ltb q c)) (cases_Bool (eqb q c))
  where
    go : (ltb q c ≡ true) ⊎ (ltb q c ≡ false) → (eqb q c ≡ true) ⊎ (eqb q c ≡ false) → is_eq (nat_cmp q c) ≡ eqb q c
    go (inl e) (inl f) = absurd (omega (arith, ltb-true q c e, eqb-true q c f))
    go (inl e) (inr f) = ap (λ (b : Bool). is_eq (cond b Less (cond (eqb q c) Equal Greater))) e ∙ sym f
    go (inr e) (inl f) = ap (λ (b : Bool). is_eq (cond b Less (cond (eqb q c) Equal Greater))) e ∙ (ap (λ (b : Bool). is_eq (cond b Equal Greater)) f ∙ sym f)
    go (inr e) (inr f) = ap (λ (b : Bool). is_eq (cond b Less (cond (eqb q c) Equal Greater))) e ∙ (ap (λ (b : Bool). is_eq (cond b Equal Greater)) f ∙ sym f)

-- a test that some number passes, and what is known of all
pub any_known : (f : ℕ → Bool) (P : ℕ → Type 0) (Q : Type 0) (ys : List ℕ) → list_any f ys ≡ true → All P ys → ((y : ℕ) → f y ≡ true → P y → Q) → Q
any_known f P Q [] e all use' = absurd (true≢false (sym e))
any_known f P Q (y ∷ ys) e all use' = go (cases_Bool (f y)) (λ h. any_known f P Q ys h (All-tail P y ys all) use')
  where
    go : (f y ≡ true) ⊎ (f y ≡ false) → (list_any f ys ≡ true → Q) → Q
    go (inl h) later = use' y h (All-head P y ys all)
    go (inr h) later = later (sym (ap (λ (b : Bool). b || list_any f ys) h) ∙ e)

-- the number of a set that is found
pub has_known : (sets : List (List ℕ)) (x q : ℕ) (P : ℕ → Type 0) → has sets x q ≡ true → All P (get_or sets x []) → P q
has_known sets x q P e all = any_known (λ c. is_eq (nat_cmp q c)) P (P q) (get_or sets x []) e all (λ c f known. subst P (sym (eqb-true q c (sym (same_number q c) ∙ f))) known)

-- a set of many as a list
pub set_was : (sets : List (BTreeSet ℕ)) (x : ℕ) (s : BTreeSet ℕ) → x < length sets → s ≡ get_or sets x s → get_or (lists_of sets) x [] ≡ keys s
set_was sets x s l at = get_or-map keys sets x s [] l ∙ ap keys (sym at)

-- what holds of each set that stays, and of the one that is replaced by another, holds of all
pub set_changed : (R : ℕ → List ℕ → List ℕ → Type 0) (places : List ℕ) (sets : List (BTreeSet ℕ)) (x p : ℕ) (s t : BTreeSet ℕ) → ArePlaced places (lists_of sets) → p ≡ get_or places x 0 → 0 < p → s ≡ get_or sets p s → ((z : ℕ) (row : List ℕ) → (z ≡ x → ⊥) → R z row row) → R x (keys s) (keys t) → (z : ℕ) → R z (get_or (placed_rows places (lists_of sets)) z []) (get_or (placed_rows places (lists_of (set sets p t))) z [])
set_changed R places sets x p s t placed e own at stays changed z =
    subst (λ (rows : List (List ℕ)). R z (get_or (placed_rows places (lists_of sets)) z []) (get_or (placed_rows places rows) z [])) (sym is)
    (row_changed R places (lists_of sets) x (keys t) placed (λ h. omega (arith, own, e, h)) stays (subst (λ (row : List ℕ). R x row (keys t)) (sym was) changed) z)
  where
    is : lists_of (set sets p t) ≡ set (lists_of sets) (get_or places x 0) (keys t)
    is = map-set keys sets p t ∙ ap (λ (k : ℕ). set (lists_of sets) k (keys t)) e

    was : get_or (lists_of sets) (get_or places x 0) [] ≡ keys s
    was = ap (λ (k : ℕ). get_or (lists_of sets) k []) (sym e) ∙ set_was sets p s (omega (arith, placed.within x, e, length-map sets keys)) at

pub lists_pushed : (sets sets' : List (BTreeSet ℕ)) (t : BTreeSet ℕ) → sets' ≡ sets ++ t ∷ [] → lists_of sets' ≡ lists_of sets ++ keys t ∷ []
lists_pushed sets sets' t e = ap lists_of e ∙ map_push keys sets t

-- what holds of each set that stays, and of the empty set and one that is put in its place, holds of all
pub set_pushed : (R : ℕ → List ℕ → List ℕ → Type 0) (places : List ℕ) (sets sets' : List (BTreeSet ℕ)) (x next : ℕ) (t : BTreeSet ℕ) → ArePlaced places (lists_of sets) → x < length places → get_or places x 0 ≡ 0 → next ≡ length sets → sets' ≡ sets ++ t ∷ [] → ((z : ℕ) (row : List ℕ) → (z ≡ x → ⊥) → R z row row) → R x [] (keys t) → (z : ℕ) → R z (get_or (placed_rows places (lists_of sets)) z []) (get_or (placed_rows (set places x next) (lists_of sets')) z [])
set_pushed R places sets sets' x next t placed l none at e stays changed =
    row_behind R places (lists_of sets) (lists_of sets') x next (keys t) placed l (at ∙ sym (length-map sets keys)) (lists_pushed sets sets' t e) stays
    (subst (λ (row : List ℕ). R x row (keys t)) (sym (ap (λ (k : ℕ). get_or (lists_of sets) k []) none ∙ placed.none)) changed)

-- a number of a list is the first, or one of the others
pub rest_step : (z x : ℕ) (list rest : List ℕ) → list ≡ x ∷ rest → list_any (λ c. is_eq (nat_cmp z c)) list ≡ true → (z ≡ x) ⊎ (list_any (λ c. is_eq (nat_cmp z c)) rest ≡ true)
rest_step z x list rest e h = go (cases_Bool (is_eq (nat_cmp z x))) (sym (ap (list_any (λ c. is_eq (nat_cmp z c))) e) ∙ h)
  where
    go : (is_eq (nat_cmp z x) ≡ true) ⊎ (is_eq (nat_cmp z x) ≡ false) → (is_eq (nat_cmp z x) || list_any (λ c. is_eq (nat_cmp z c)) rest) ≡ true → (z ≡ x) ⊎ (list_any (λ c. is_eq (nat_cmp z c)) rest ≡ true)
    go (inl f) g = inl (eqb-true z x (sym (same_number z x) ∙ f))
    go (inr f) g = inr (sym (ap (λ (b : Bool). b || list_any (λ c. is_eq (nat_cmp z c)) rest) f) ∙ g)

pub none_left : (z : ℕ) (list : List ℕ) → list ≡ [] → list_any (λ c. is_eq (nat_cmp z c)) list ≡ true → ⊥
none_left z list e h = true≢false (sym h ∙ ap (list_any (λ c. is_eq (nat_cmp z c))) e)
