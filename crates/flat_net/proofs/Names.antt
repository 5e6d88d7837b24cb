-- Names among names.
use Rattle.std.proofs.Common.{◌≡◌, ◌≢◌, ℕ, ◌+◌, ◌<◌, true, false, List, [], ◌∷◌, ◌++◌, length, get_or, take, sym, ◌∙◌, arith}
use Rattle.std.specs.List.{list_any}
use Rattle.std.specs.Str.{bytes_eq}
use Rattle.std.proofs.lemmas.Bool.{false_from_ne_true, cond-false}
use Rattle.std.proofs.lemmas.List.{take_more, get_or-take, length-take-le, get_or_default}
use Rattle.std.proofs.lemmas.List.Folds.{list_any_none}
use Rattle.std.proofs.lemmas.Slice.Eq.{bytes_eq-Decides}
use Rattle.indexmap.specs.IndexSet.{insert_key}
use Rattle.flat_net.specs.Draft.{AreDistinct}
use Rattle.flat_net.specs.Faults.{is_among}

pub eq_true : (x y : List ℕ) → x ≡ y → bytes_eq x y ≡ true
eq_true x y e = (bytes_eq-Decides x y).1 e

pub eq_from : (x y : List ℕ) → bytes_eq x y ≡ true → x ≡ y
eq_from x y e = (bytes_eq-Decides x y).0 e

pub eq_false : (x y : List ℕ) → x ≢ y → bytes_eq x y ≡ false
eq_false x y ne = false_from_ne_true (bytes_eq x y) (λ e. ne (eq_from x y e))

-- a name that is none of them
pub not_among : (names : List (List ℕ)) (x : List ℕ) → ((k : ℕ) → k < length names → get_or names k [] ≢ x) → is_among names x ≡ false
not_among names x differs = list_any_none (bytes_eq x) names (λ k d h. eq_false x (get_or names k d) (λ e. differs k h (get_or_default names k [] d h ∙ sym e)))

-- a name that is none of them goes last
pub insert_new : (names : List (List ℕ)) (x : List ℕ) → is_among names x ≡ false → insert_key bytes_eq names x ≡ names ++ x ∷ []
insert_new names x none = cond-false (list_any (bytes_eq x) names) names (names ++ x ∷ []) none

-- one of distinct names is none of those before it
pub not_before : (names : List (List ℕ)) (i : ℕ) → AreDistinct names → i < length names → is_among (take i names) (get_or names i []) ≡ false
not_before names i distinct h = not_among (take i names) (get_or names i []) (λ k l e. distinct k i (below k l) h (sym (get_or-take i names k [] (below k l)) ∙ e))
  where
    below : (k : ℕ) → k < length (take i names) → k < i
    below k l = omega (arith, length-take-le i names (omega arith))

-- the next of distinct names goes behind those before it
pub insert_next : (names : List (List ℕ)) (i : ℕ) → AreDistinct names → i < length names → insert_key bytes_eq (take i names) (get_or names i []) ≡ take (i + 1) names
insert_next names i distinct h = insert_new (take i names) (get_or names i []) (not_before names i distinct h) ∙ sym (take_more names i [] h)
