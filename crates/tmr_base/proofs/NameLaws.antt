-- What is a name stays one behind another.
use Rattle.std.proofs.Common.{◌≡◌, ℕ, suc, ◌+◌, ◌-◌, ◌^◌, ◌<◌, Bool, true, false, List, [], ◌∷◌, ◌++◌, length, Option, refl, sym, ap, ◌∙◌, arith, append_assoc}
use Rattle.std.specs.Prelude.{◌==◌, ◌&&◌, not, slice_get}
use Rattle.std.specs.List.{list_all}
use Rattle.std.specs.Option.{option_map_or}
use Rattle.std.specs.Fmt.{decimal}
use Rattle.std.specs.Char.{is_ascii_digit}
use Rattle.std.specs.Str.{all_ascii_digits}
use Rattle.std.proofs.lemmas.Bool.Decides.{nat_tests}
use Rattle.std.proofs.lemmas.Fmt.{digits_decimal, decimal_nonempty}
use Rattle.std.proofs.lemmas.Str.Parse.{numerals_by_value, tells_all_ascii_digits}
use Rattle.tmr_base.specs.declared.copies.CopyNo.{CopyNo}
use Rattle.tmr_base.specs.Copies.{copy_number}
use Rattle.tmr_base.specs.Names.{is_name, is_name_byte, stem_text, voter_text}

both : (a b : Bool) → (a && b) ≡ true → (a ≡ true) × (b ≡ true)
both true b e = (refl, e)
both false b e = absurd cc

and : (a b : Bool) → a ≡ true → b ≡ true → (a && b) ≡ true
and a b e f = cc

pub list_all-append : {A : Type 0} (p : A → Bool) (xs ys : List A) → list_all p xs ≡ true → list_all p ys ≡ true → list_all p (xs ++ ys) ≡ true
list_all-append p [] ys e f = f
list_all-append p (x ∷ xs) ys e f = let b = both (p x) (list_all p xs) e in and (p x) (list_all p (xs ++ ys)) b.0 (list_all-append p xs ys b.1 f)

-- one in front of others leaves the last one
last-cons : (x : ℕ) (zs : List ℕ) → 0 < length zs → slice_get (x ∷ zs) (length (x ∷ zs) - 1) ≡ slice_get zs (length zs - 1)
last-cons x [] h = absurd (omega arith)
last-cons x (z ∷ zs) h =
    let whole : length (x ∷ z ∷ zs) - 1 ≡ suc (length zs) = omega arith in
    let rest : length (z ∷ zs) - 1 ≡ length zs = omega arith in
    ap (slice_get (x ∷ z ∷ zs)) whole ∙ ap (slice_get (z ∷ zs)) (sym rest)

-- the last of two lists is the last of the second, unless that is empty
last-append : (xs : List ℕ) (y : ℕ) (ys : List ℕ) → slice_get (xs ++ (y ∷ ys)) (length (xs ++ (y ∷ ys)) - 1) ≡ slice_get (y ∷ ys) (length (y ∷ ys) - 1)
last-append [] y ys = refl
last-append (x ∷ xs) y ys = last-cons x (xs ++ (y ∷ ys)) (positive xs y ys) ∙ last-append xs y ys
  where
    positive : (xs : List ℕ) (y : ℕ) (ys : List ℕ) → 0 < length (xs ++ (y ∷ ys))
    positive [] y ys = omega arith
    positive (x ∷ xs) y ys = omega arith

pub name_append : (xs ys : List ℕ) → is_name xs ≡ true → is_name ys ≡ true → is_name (xs ++ ys) ≡ true
name_append xs [] e f = absurd cc
name_append xs (y ∷ ys) e f =
    let a = both _ (list_all is_name_byte xs) e in
    let b = both (option_map_or (λ b. not (b == 92)) (slice_get (y ∷ ys) (length (y ∷ ys) - 1)) false) (list_all is_name_byte (y ∷ ys)) f in
    and _ _ (ap (λ (o : Option ℕ). option_map_or (λ b. not (b == 92)) o false) (last-append xs y ys) ∙ b.0) (list_all-append is_name_byte xs (y ∷ ys) a.1 b.1)

digit_is_name_byte : (b : ℕ) → is_ascii_digit b ≡ true → is_name_byte b ≡ true
digit_is_name_byte b e = grind (arith, nat_tests)

digit_ends : (b : ℕ) → is_ascii_digit b ≡ true → not (b == 92) ≡ true
digit_ends b e = grind (arith, nat_tests)

digits_are_name_bytes : (bs : List ℕ) → all_ascii_digits bs ≡ true → list_all is_name_byte bs ≡ true
digits_are_name_bytes [] e = refl
digits_are_name_bytes (b ∷ bs) e =
    let d = both (is_ascii_digit b) (all_ascii_digits bs) e in
    and (is_name_byte b) (list_all is_name_byte bs) (digit_is_name_byte b d.0) (digits_are_name_bytes bs d.1)

digits_end : (bs : List ℕ) → all_ascii_digits bs ≡ true → 0 < length bs → option_map_or (λ b. not (b == 92)) (slice_get bs (length bs - 1)) false ≡ true
digits_end [] e h = absurd (omega arith)
digits_end (b ∷ []) e h = digit_ends b (both (is_ascii_digit b) true e).0
digits_end (b ∷ c ∷ bs) e h =
    let d = both (is_ascii_digit b) (all_ascii_digits (c ∷ bs)) e in
    ap (λ (o : Option ℕ). option_map_or (λ x. not (x == 92)) o false) (last-cons b (c ∷ bs) (omega arith)) ∙ digits_end (c ∷ bs) d.1 (omega arith)

-- a byte and a number are a name
pub numbered_name : (letter k : ℕ) → is_name_byte letter ≡ true → k < 2 ^ 64 → is_name (letter ∷ decimal k) ≡ true
numbered_name letter k is fits =
    let digits = digits_decimal (numerals_by_value (λ ds. all_ascii_digits ds ≡ true) tells_all_ascii_digits) k fits in
    let some = decimal_nonempty k fits in
    and _ _
    (ap (λ (o : Option ℕ). option_map_or (λ x. not (x == 92)) o false) (last-cons letter (decimal k) some) ∙ digits_end (decimal k) digits some)
    (and (is_name_byte letter) (list_all is_name_byte (decimal k)) is (digits_are_name_bytes (decimal k) digits))

-- what stands behind a net's name in all its voters' for a partition
pub stem_suffix_name : (suffix : List ℕ) (p : ℕ) → p < 2 ^ 64 → suffix ≡ 126 ∷ decimal p → is_name suffix ≡ true
stem_suffix_name suffix p fits e = ap is_name e ∙ numbered_name 126 p refl fits

-- the last two bytes behind that are a voter's name
pub stem_then_letter : (stem x : List ℕ) (p : ℕ) (c : CopyNo) → stem ≡ stem_text x p → stem ++ 126 ∷ (97 + copy_number c) ∷ [] ≡ voter_text x p c
stem_then_letter stem x p c e =
    ap (λ s. s ++ 126 ∷ (97 + copy_number c) ∷ []) e ∙ append_assoc x (126 ∷ decimal p) (126 ∷ (97 + copy_number c) ∷ [])
