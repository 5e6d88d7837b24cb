-- The texts that hardening adds never meet.
use Rattle.std.proofs.Common.{◌≡◌, ◌≢◌, ℕ, zero, suc, ◌+◌, ◌^◌, ◌<◌, true, List, [], ◌∷◌, ◌++◌, refl, ap, sym, ◌∙◌, subst, arith, append_assoc, All}
use Rattle.std.specs.Prelude.{codes}
use Rattle.std.specs.Fmt.{decimal}
use Rattle.std.specs.Char.{is_ascii_digit}
use Rattle.std.specs.Str.{all_ascii_digits}
use Rattle.std.proofs.lemmas.Bool.{and_parts}
use Rattle.std.proofs.lemmas.Bool.Decides.{nat_tests}
use Rattle.std.proofs.lemmas.Fmt.{digits_decimal, decimal_injective}
use Rattle.std.proofs.lemmas.Str.Parse.{numerals_by_value, tells_all_ascii_digits}
use Rattle.tmr_base.specs.declared.copies.CopyNo.{CopyNo}
use Rattle.tmr_base.specs.declared.copies.CopyNo.TheVariants.{First, Second, Third}
use Rattle.tmr_base.specs.Copies.{copy_number}
use Rattle.tmr_base.specs.Names.{is_name, copy_text, voter_text, clock_text}
use Rattle.tmr_base.proofs.NameLaws.{name_append, numbered_name}
use Rattle.triplicate.proofs.Lists.{same_copy, copy_number_few}

-- equal lists end alike
pub ends_alike : (xs ys : List ℕ) (a b : ℕ) → xs ++ a ∷ [] ≡ ys ++ b ∷ [] → (xs ≡ ys) × (a ≡ b)
ends_alike [] [] a b e = (refl, cc)
ends_alike [] (y ∷ []) a b e = absurd (cc)
ends_alike [] (y ∷ z ∷ ys) a b e = absurd (cc)
ends_alike (x ∷ []) [] a b e = absurd (cc)
ends_alike (x ∷ z ∷ xs) [] a b e = absurd (cc)
ends_alike (x ∷ xs) (y ∷ ys) a b e =
    let tails : xs ++ a ∷ [] ≡ ys ++ b ∷ [] = cc in
    let heads : x ≡ y = cc in
    let rest = ends_alike xs ys a b tails in
    let same : xs ≡ ys = rest.0 in
    (cc, rest.1)

-- two ends
pub two_alike : (xs ys : List ℕ) (m k a b : ℕ) → xs ++ m ∷ a ∷ [] ≡ ys ++ k ∷ b ∷ [] → (xs ≡ ys) × (m ≡ k) × (a ≡ b)
two_alike xs ys m k a b e =
    let both = ends_alike (xs ++ m ∷ []) (ys ++ k ∷ []) a b (append_assoc xs (m ∷ []) (a ∷ []) ∙ (e ∙ sym (append_assoc ys (k ∷ []) (b ∷ [])))) in
    let front = ends_alike xs ys m k both.0 in
    (front.0, front.1, both.1)

-- a byte that stands in one list does not stand in one where all differ from it
stands_in : (xs es : List ℕ) (m : ℕ) → All (λ b. b ≢ m) (xs ++ m ∷ es) → ⊥
stands_in [] es m h = h 0 m (omega arith) refl
stands_in (x ∷ xs) es m h = stands_in xs es m (λ k d l. h (suc k) d (omega arith))

-- two lists that are cut at the last m
pub cut_alike : (xs ys ds es : List ℕ) (m : ℕ) → All (λ b. b ≢ m) ds → All (λ b. b ≢ m) es → xs ++ m ∷ ds ≡ ys ++ m ∷ es → (xs ≡ ys) × (ds ≡ es)
cut_alike [] [] ds es m h g e = (refl, cc)
cut_alike [] (y ∷ ys) ds es m h g e =
    let same : ds ≡ ys ++ m ∷ es = cc in
    absurd (stands_in ys es m (subst (All (λ b. b ≢ m)) same h))
cut_alike (x ∷ xs) [] ds es m h g e =
    let same : es ≡ xs ++ m ∷ ds = cc in
    absurd (stands_in xs ds m (subst (All (λ b. b ≢ m)) same g))
cut_alike (x ∷ xs) (y ∷ ys) ds es m h g e =
    let heads : x ≡ y = cc in
    let tails : xs ++ m ∷ ds ≡ ys ++ m ∷ es = cc in
    let rest = cut_alike xs ys ds es m h g tails in
    let same : xs ≡ ys = rest.0 in
    (cc, rest.1)

digit_apart : (b : ℕ) → is_ascii_digit b ≡ true → b ≢ 126
digit_apart b e = grind (arith, nat_tests)

digits_apart : (bs : List ℕ) → all_ascii_digits bs ≡ true → All (λ b. b ≢ 126) bs
digits_apart [] e k d h = absurd (omega arith)
digits_apart (b ∷ bs) e zero d h = digit_apart b ((and_parts (is_ascii_digit b) (all_ascii_digits bs) e).0)
digits_apart (b ∷ bs) e (suc k) d h = digits_apart bs ((and_parts (is_ascii_digit b) (all_ascii_digits bs) e).1) k d (omega arith)

-- a copy's name ends in its number, and a voter's in a letter
voter_split : (x : List ℕ) (p : ℕ) (c : CopyNo) → voter_text x p c ≡ (x ++ 126 ∷ decimal p) ++ 126 ∷ (97 + copy_number c) ∷ []
voter_split x p c = sym (append_assoc x (126 ∷ decimal p) (126 ∷ (97 + copy_number c) ∷ []))

pub copies_differ : (a b : List ℕ) (c d : CopyNo) → copy_text a c ≡ copy_text b d → (a ≡ b) × (c ≡ d)
copies_differ a b c d e =
    let parts = two_alike a b 126 126 (48 + copy_number c) (48 + copy_number d) e in
    (parts.0, same_copy c d (omega (arith, parts.2)))

pub copy_is_no_voter : (a b : List ℕ) (p : ℕ) (c d : CopyNo) → copy_text a c ≡ voter_text b p d → ⊥
copy_is_no_voter a b p c d e =
    let parts = two_alike a (b ++ 126 ∷ decimal p) 126 126 (48 + copy_number c) (97 + copy_number d) (e ∙ voter_split b p d) in
    omega (arith, parts.2, copy_number_few c, copy_number_few d)

pub voters_differ : (a b : List ℕ) (p q : ℕ) (c d : CopyNo) → p < 2 ^ 64 → q < 2 ^ 64 → voter_text a p c ≡ voter_text b q d → (a ≡ b) × (p ≡ q) × (c ≡ d)
voters_differ a b p q c d h g e =
    let parts = two_alike (a ++ 126 ∷ decimal p) (b ++ 126 ∷ decimal q) 126 126 (97 + copy_number c) (97 + copy_number d) (sym (voter_split a p c) ∙ (e ∙ voter_split b q d)) in
    let names = cut_alike a b (decimal p) (decimal q) 126 (decimal_apart p h) (decimal_apart q g) parts.0 in
    (names.0, decimal_injective p q h g names.1, same_copy c d (omega (arith, parts.2)))
  where
    decimal_apart : (n : ℕ) → n < 2 ^ 64 → All (λ b. b ≢ 126) (decimal n)
    decimal_apart n fits = digits_apart (decimal n) (digits_decimal (numerals_by_value (λ ds. all_ascii_digits ds ≡ true) tells_all_ascii_digits) n fits)

pub copy_is_no_clock : (a b : List ℕ) (c : CopyNo) → copy_text a c ≡ clock_text b → ⊥
copy_is_no_clock a b c e =
    let parts = two_alike a b 126 126 (48 + copy_number c) 107 e in
    omega (arith, parts.2, copy_number_few c)

pub voter_is_no_clock : (a b : List ℕ) (p : ℕ) (c : CopyNo) → voter_text a p c ≡ clock_text b → ⊥
voter_is_no_clock a b p c e =
    let parts = two_alike (a ++ 126 ∷ decimal p) b 126 126 (97 + copy_number c) 107 (sym (voter_split a p c) ∙ e) in
    omega (arith, parts.2, copy_number_few c)

pub clock_is_not_nil : (b : List ℕ) → clock_text b ≢ codes "NIL"
clock_is_not_nil b e =
    let parts = two_alike b (78 ∷ []) 126 73 107 76 e in
    omega (arith, parts.2)

pub copy_is_name : (a : List ℕ) (c : CopyNo) → is_name a ≡ true → is_name (copy_text a c) ≡ true
copy_is_name a First h = name_append a (126 ∷ 48 ∷ []) h refl
copy_is_name a Second h = name_append a (126 ∷ 49 ∷ []) h refl
copy_is_name a Third h = name_append a (126 ∷ 50 ∷ []) h refl

pub voter_is_name : (a : List ℕ) (p : ℕ) (c : CopyNo) → p < 2 ^ 64 → is_name a ≡ true → is_name (voter_text a p c) ≡ true
voter_is_name a p c fits h =
    ap is_name (voter_split a p c) ∙ letter_behind (a ++ 126 ∷ decimal p) c (name_append a (126 ∷ decimal p) h (numbered_name 126 p refl fits))
  where
    letter_behind : (stem : List ℕ) (c : CopyNo) → is_name stem ≡ true → is_name (stem ++ 126 ∷ (97 + copy_number c) ∷ []) ≡ true
    letter_behind stem First h = name_append stem (126 ∷ 97 ∷ []) h refl
    letter_behind stem Second h = name_append stem (126 ∷ 98 ∷ []) h refl
    letter_behind stem Third h = name_append stem (126 ∷ 99 ∷ []) h refl

pub clock_is_name : (a : List ℕ) → is_name a ≡ true → is_name (clock_text a) ≡ true
clock_is_name a h = name_append a (126 ∷ 107 ∷ []) h refl
