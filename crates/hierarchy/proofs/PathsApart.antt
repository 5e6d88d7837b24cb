-- Different paths have different texts.
use Rattle.std.proofs.Common.{◌≡◌, ◌≢◌, ℕ, ◌^◌, ◌<◌, List, [], ◌∷◌, ◌++◌, length, refl, sym, ap, ◌∙◌, subst, arith}
use Rattle.std.specs.Prelude.{All}
use Rattle.std.specs.Fmt.{decimal}
use Rattle.std.specs.Char.{digit_value}
use Rattle.std.specs.Str.Parse.{AllDigits}
use Rattle.std.proofs.lemmas.Fmt.{decimal_is_IsNumeral, decimal_injective}
use Rattle.std.proofs.lemmas.List.{append_assoc}
use Rattle.std.proofs.lemmas.List.Elements.{All-head, All-tail}
use Rattle.library_faults.specs.Flat.{step, path_text}
use Rattle.hierarchy.specs.Private.Naming.{AreSmall}

-- no byte of the text is `/`
abbrev HasNoSlash : List ℕ → Type 0
HasNoSlash [] = Unit {0}
HasNoSlash (b ∷ bytes) = (b ≢ 47) × HasNoSlash bytes

digits_only : (bytes : List ℕ) → AllDigits 10 bytes → HasNoSlash bytes
digits_only [] all = tt
digits_only (b ∷ bytes) all = ((λ e. no_digit (subst (λ c. digit_value c < 10) e all.0)), digits_only bytes all.1)
  where
    no_digit : digit_value 47 < 10 → ⊥
    no_digit l = omega arith

-- texts up to the first `/`
up_to_slash : (xs ys r s : List ℕ) → HasNoSlash xs → HasNoSlash ys → xs ++ 47 ∷ r ≡ ys ++ 47 ∷ s → (xs ≡ ys) × (r ≡ s)
up_to_slash [] [] r s a b e = (refl, cc)
up_to_slash [] (y ∷ ys) r s a b e = absurd (b.0 cc)
up_to_slash (x ∷ xs) [] r s a b e = absurd (a.0 cc)
up_to_slash (x ∷ xs) (y ∷ ys) r s a b e =
    let rest : xs ++ 47 ∷ r ≡ ys ++ 47 ∷ s = cc in
    let both = up_to_slash xs ys r s a.1 b.1 rest in
    let same : xs ≡ ys = both.0 in
    (cc, both.1)

no_slash : (number : ℕ) → number < 2 ^ 64 → HasNoSlash (decimal number)
no_slash number small = digits_only (decimal number) ((decimal_is_IsNumeral number small).0).1

first_step : (number : ℕ) (rest : List ℕ) → step number ++ rest ≡ 117 ∷ (decimal number ++ 47 ∷ rest)
unfolding step
first_step number rest = ap (λ t. 117 ∷ t) (append_assoc (decimal number) (47 ∷ []) rest)

pub paths_apart : (a b : List ℕ) → All (λ number. number < 2 ^ 64) a → All (λ number. number < 2 ^ 64) b → path_text a ≡ path_text b → a ≡ b
paths_apart [] [] small_a small_b e = refl
paths_apart [] (y ∷ ys) small_a small_b e = absurd (let long : [] ≡ 117 ∷ (decimal y ++ 47 ∷ path_text ys) = e ∙ first_step y (path_text ys) in cc)
paths_apart (x ∷ xs) [] small_a small_b e = absurd (let long : 117 ∷ (decimal x ++ 47 ∷ path_text xs) ≡ [] = sym (first_step x (path_text xs)) ∙ e in cc)
paths_apart (x ∷ xs) (y ∷ ys) small_a small_b e =
    let whole : 117 ∷ (decimal x ++ 47 ∷ path_text xs) ≡ 117 ∷ (decimal y ++ 47 ∷ path_text ys) = sym (first_step x (path_text xs)) ∙ (e ∙ first_step y (path_text ys)) in
    let behind : decimal x ++ 47 ∷ path_text xs ≡ decimal y ++ 47 ∷ path_text ys = cc in
    let small_x : x < 2 ^ 64 = All-head (λ number. number < 2 ^ 64) x xs small_a in
    let small_y : y < 2 ^ 64 = All-head (λ number. number < 2 ^ 64) y ys small_b in
    let both = up_to_slash (decimal x) (decimal y) (path_text xs) (path_text ys) (no_slash x small_x) (no_slash y small_y) behind in
    let number : x ≡ y = decimal_injective x y small_x small_y both.0 in
    let rest : xs ≡ ys = paths_apart xs ys (All-tail (λ number. number < 2 ^ 64) x xs small_a) (All-tail (λ number. number < 2 ^ 64) y ys small_b) both.1 in
    cc

first_text : (number : ℕ) (path name : List ℕ) → path_text (number ∷ path) ++ name ≡ 117 ∷ (decimal number ++ 47 ∷ (path_text path ++ name))
first_text number path name = append_assoc (step number) (path_text path) name ∙ first_step number (path_text path ++ name)

-- paths of as many numbers, behind which texts are the same
pub same_paths : (a b n m : List ℕ) → AreSmall a → AreSmall b → length a ≡ length b → path_text a ++ n ≡ path_text b ++ m → (a ≡ b) × (n ≡ m)
same_paths [] [] n m small_a small_b long e = (refl, e)
same_paths [] (y ∷ ys) n m small_a small_b long e = absurd (omega arith)
same_paths (x ∷ xs) [] n m small_a small_b long e = absurd (omega arith)
same_paths (x ∷ xs) (y ∷ ys) n m small_a small_b long e =
    let whole : 117 ∷ (decimal x ++ 47 ∷ (path_text xs ++ n)) ≡ 117 ∷ (decimal y ++ 47 ∷ (path_text ys ++ m)) = sym (first_text x xs n) ∙ (e ∙ first_text y ys m) in
    let behind : decimal x ++ 47 ∷ (path_text xs ++ n) ≡ decimal y ++ 47 ∷ (path_text ys ++ m) = cc in
    let small_x : x < 2 ^ 64 = All-head (λ number. number < 2 ^ 64) x xs small_a in
    let small_y : y < 2 ^ 64 = All-head (λ number. number < 2 ^ 64) y ys small_b in
    let both = up_to_slash (decimal x) (decimal y) (path_text xs ++ n) (path_text ys ++ m) (no_slash x small_x) (no_slash y small_y) behind in
    let number : x ≡ y = decimal_injective x y small_x small_y both.0 in
    let rest = same_paths xs ys n m (All-tail (λ number. number < 2 ^ 64) x xs small_a) (All-tail (λ number. number < 2 ^ 64) y ys small_b) (let l : length xs ≡ length ys = omega arith in l) both.1 in
    let paths : xs ≡ ys = rest.0 in
    (cc, rest.1)
