-- The decimal text of a number, and the number of a text.
use Rattle.std.proofs.Common.{◌≡◌, ◌≢◌, ℕ, zero, suc, ◌^◌, ◌<◌, ◌≤◌, Bool, true, false, cond, List, [], ◌∷◌, length, get_or, Option, Some, None, Result, Ok, Err, refl, sym, ap, subst, ◌∙◌, arith}
use Rattle.std.specs.Result.{OkIff}
use Rattle.std.specs.Prelude.{◌&&◌, nat_lt}
use Rattle.std.specs.Str.{bytes_eq, IsUtf8}
use Rattle.std.proofs.lemmas.Str.{IsUtf8-from_ascii}
use Rattle.std.specs.Str.Parse.{digits_value, AllDigits, ParsesUnsigned}
use Rattle.std.specs.Fmt.{decimal}
use Rattle.std.proofs.lemmas.Bool.{ltb-true, lt-ltb}
use Rattle.std.proofs.lemmas.Fmt.{decimal_is_IsNumeral, decimal-digits_value, digits_decimal, decimal_digit, decimal_injective, first_decimal, IsAscii-decimal, decimal_nonempty}
use Rattle.std.proofs.lemmas.Slice.Eq.{bytes_eq-Decides}
use Rattle.std.proofs.lemmas.Str.Parse.{IsNumeralModel, numerals_by_value, tells_digits, parse_plain}
use Rattle.tmr_base.specs.Numbers.{number_of}

own : IsNumeralModel (AllDigits 10) (digits_value 10)
own = numerals_by_value (AllDigits 10) tells_digits

-- a number's text is read as the number
pub number_again : (bits n : ℕ) → n < 2 ^ bits → n < 2 ^ 64 → number_of bits (decimal n) ≡ Some n
unfolding number_of
number_again bits n small fits =
    let e : digits_value 10 (decimal n) ≡ n = (decimal_is_IsNumeral n fits).1 in
    let same : bytes_eq (decimal n) (decimal n) ≡ true = (bytes_eq-Decides (decimal n) (decimal n)).1 refl in
    rw e (rw (same, lt-ltb n (2 ^ bits) small) refl)

chosen : {A : Type 0} (b c : Bool) (x y : A) → cond (b && c) (Some x) None ≡ Some y → (b ≡ true) × (c ≡ true) × (x ≡ y)
chosen true true x y e = (refl, refl, cc)
chosen true false x y e = absurd cc
chosen false c x y e = absurd cc

-- what is read as a number is its text
pub number_text : (bits : ℕ) (bytes : List ℕ) (n : ℕ) → number_of bits bytes ≡ Some n → (bytes ≡ decimal n) × (n < 2 ^ bits)
unfolding number_of
number_text bits bytes n e =
    let c = chosen (bytes_eq (decimal (digits_value 10 bytes)) bytes) (nat_lt (digits_value 10 bytes) (2 ^ bits)) (digits_value 10 bytes) n e in
    let text : decimal (digits_value 10 bytes) ≡ bytes = (bytes_eq-Decides (decimal (digits_value 10 bytes)) bytes).0 c.0 in
    let small : digits_value 10 bytes < 2 ^ bits = ltb-true _ _ c.1 in
    (sym text ∙ ap decimal c.2, subst (λ (m : ℕ). m < 2 ^ bits) c.2 small)

pub number_from : (bits : ℕ) (bytes : List ℕ) (n : ℕ) → bytes ≡ decimal n → n < 2 ^ bits → n < 2 ^ 64 → number_of bits bytes ≡ Some n
number_from bits bytes n text small fits = ap (number_of bits) text ∙ number_again bits n small fits

none_from : (bits : ℕ) (bytes : List ℕ) (o : Option ℕ) → number_of bits bytes ≡ o → ((n : ℕ) → n < 2 ^ bits → bytes ≡ decimal n → ⊥) → o ≡ None
none_from bits bytes None e never = refl
none_from bits bytes (Some n) e never = let t = number_text bits bytes n e in absurd (never n t.1 t.0)

-- what is no number's text is read as none
pub number_none : (bits : ℕ) (bytes : List ℕ) → ((n : ℕ) → n < 2 ^ bits → bytes ≡ decimal n → ⊥) → number_of bits bytes ≡ None
number_none bits bytes never = none_from bits bytes (number_of bits bytes) refl never

pub number_is_none : (bits : ℕ) (bytes : List ℕ) → bits ≤ 64 → number_of bits bytes ≡ None → (n : ℕ) → n < 2 ^ bits → n < 2 ^ 64 → bytes ≢ decimal n
number_is_none bits bytes few none n small fits text = let s = number_from bits bytes n text small fits in cc

first_at_least : (n : ℕ) → n < 2 ^ 64 → 48 ≤ get_or (decimal n) 0 0
first_at_least zero fits = rw (decimal_digit 0 (omega arith)) (omega arith)
first_at_least (suc n) fits = let f = first_decimal (suc n) (omega arith) fits in omega arith

pub none_of_none : (bytes : List ℕ) → length bytes ≡ 0 → number_of 64 bytes ≡ None
none_of_none bytes e = number_none 64 bytes (λ n small text. let long = decimal_nonempty n small in let same : length bytes ≡ length (decimal n) = ap length text in omega arith)

pub none_of_sign : (bytes : List ℕ) → get_or bytes 0 0 < 48 → number_of 64 bytes ≡ None
none_of_sign bytes e = number_none 64 bytes (λ n small text. let first = first_at_least n small in let same : get_or bytes 0 0 ≡ get_or (decimal n) 0 0 = ap (λ (b : List ℕ). get_or b 0 0) text in omega arith)

zero_is_short : (n : ℕ) → n < 2 ^ 64 → get_or (decimal n) 0 0 ≡ 48 → length (decimal n) ≡ 1
zero_is_short zero fits e = rw (decimal_digit 0 (omega arith)) refl
zero_is_short (suc n) fits e = let f = first_decimal (suc n) (omega arith) fits in absurd (omega arith)

pub none_of_zeros : (bytes : List ℕ) → get_or bytes 0 0 ≡ 48 → length bytes ≢ 1 → number_of 64 bytes ≡ None
none_of_zeros bytes e long = number_none 64 bytes (λ n small text. long (ap length text ∙ zero_is_short n small (sym (ap (λ (b : List ℕ). get_or b 0 0) text) ∙ e)))

single : (bytes : List ℕ) → get_or bytes 0 0 ≡ 48 → length bytes ≡ 1 → bytes ≡ 48 ∷ []
single [] e one = absurd cc
single (b ∷ []) e one = ap (λ (x : ℕ). x ∷ []) e
single (b ∷ c ∷ bytes) e one = absurd (omega arith)

pub zero_of_zero : (bytes : List ℕ) → get_or bytes 0 0 ≡ 48 → length bytes ≡ 1 → number_of 64 bytes ≡ Some 0
zero_of_zero bytes e one = number_from 64 bytes 0 (single bytes e one ∙ sym (decimal_digit 0 (omega arith))) (omega arith) (omega arith)

pub some_of_parsed : {E : Type 0} (bytes : List ℕ) (r : Result ℕ E) (n : ℕ) → ParsesUnsigned 64 10 bytes r → r ≡ Ok n → get_or bytes 0 0 ≢ 48 → get_or bytes 0 0 ≢ 43 → number_of 64 bytes ≡ Some n
some_of_parsed {E} bytes r n parsed is no_zero plus =
    let o : OkIff {E = E} (Ok n) (AllDigits 10 bytes × (0 < length bytes) × (digits_value 10 bytes < 2 ^ 64)) (digits_value 10 bytes) = subst (λ (q : Result ℕ E). OkIff q (AllDigits 10 bytes × (0 < length bytes) × (digits_value 10 bytes < 2 ^ 64)) (digits_value 10 bytes)) is (parse_plain own 64 bytes r parsed plus) in
    let text : decimal (digits_value 10 bytes) ≡ bytes = decimal-digits_value own bytes o.0.0 o.0.1 (λ e. absurd (no_zero e)) o.0.2 in
    let same : digits_value 10 bytes ≡ n = sym o.1 in
    number_from 64 bytes n (sym text ∙ ap decimal same) (subst (λ (m : ℕ). m < 2 ^ 64) same o.0.2) (subst (λ (m : ℕ). m < 2 ^ 64) same o.0.2)

digits_of_text : (n : ℕ) (bytes : List ℕ) → n < 2 ^ 64 → bytes ≡ decimal n → AllDigits 10 bytes × (0 < length bytes) × (digits_value 10 bytes < 2 ^ 64)
digits_of_text n bytes small text = let d = decimal_is_IsNumeral n small in rw text (digits_decimal own n small, decimal_nonempty n small, rw d.1 small)

pub none_of_refused : {E : Type 0} (bytes : List ℕ) (r : Result ℕ E) (e : E) → ParsesUnsigned 64 10 bytes r → r ≡ Err e → get_or bytes 0 0 ≢ 43 → number_of 64 bytes ≡ None
none_of_refused {E} bytes r e parsed is plus =
    let o : ¬ (AllDigits 10 bytes × (0 < length bytes) × (digits_value 10 bytes < 2 ^ 64)) = subst (λ (q : Result ℕ E). OkIff q (AllDigits 10 bytes × (0 < length bytes) × (digits_value 10 bytes < 2 ^ 64)) (digits_value 10 bytes)) is (parse_plain own 64 bytes r parsed plus) in
    number_none 64 bytes (λ n small text. o (digits_of_text n bytes small text))

pub none_of_other : (bytes : List ℕ) → (IsUtf8 bytes → ⊥) → number_of 64 bytes ≡ None
none_of_other bytes other = number_none 64 bytes (λ n small text. other (subst IsUtf8 (sym text) (IsUtf8-from_ascii (decimal n) (IsAscii-decimal n small))))

pub narrow_some : (bytes : List ℕ) (n : ℕ) → number_of 64 bytes ≡ Some n → n < 2 ^ 32 → number_of 32 bytes ≡ Some n
narrow_some bytes n e small = let t = number_text 64 bytes n e in number_from 32 bytes n t.0 small t.1

pub narrow_large : (bytes : List ℕ) (n : ℕ) → number_of 64 bytes ≡ Some n → 2 ^ 32 ≤ n → number_of 32 bytes ≡ None
narrow_large bytes n e large = let t = number_text 64 bytes n e in
    number_none 32 bytes (λ m small text. let same : m ≡ n = decimal_injective m n (omega arith) t.1 (sym text ∙ t.0) in omega arith)

pub narrow_none : (bytes : List ℕ) → number_of 64 bytes ≡ None → number_of 32 bytes ≡ None
narrow_none bytes e = number_none 32 bytes (λ m small text. number_is_none 64 bytes (omega arith) e m (omega arith) (omega arith) text)

pub is_text : (bytes : List ℕ) (n : ℕ) → number_of 32 bytes ≡ Some n → bytes ≡ decimal n
is_text bytes n e = (number_text 32 bytes n e).0

pub is_no_text : (bytes : List ℕ) → number_of 32 bytes ≡ None → (n : ℕ) → n < 2 ^ 32 → bytes ≢ decimal n
is_no_text bytes e n small = number_is_none 32 bytes (omega arith) e n small (omega arith)

pub ruleset narrow = (narrow_some, narrow_large, narrow_none)

pub is_long_text : (bytes : List ℕ) (n : ℕ) → number_of 64 bytes ≡ Some n → bytes ≡ decimal n
is_long_text bytes n e = (number_text 64 bytes n e).0

pub is_no_long_text : (bytes : List ℕ) → number_of 64 bytes ≡ None → (n : ℕ) → n < 2 ^ 64 → bytes ≢ decimal n
is_no_long_text bytes e n small = number_is_none 64 bytes (omega arith) e n small small

pub ruleset long_texts = (is_long_text, is_no_long_text)

pub ruleset texts = (is_text, is_no_text)
