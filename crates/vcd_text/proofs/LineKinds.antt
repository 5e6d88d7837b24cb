-- What each line of the text tells.
use Rattle.std.proofs.Common.{◌≡◌, ◌≢◌, ℕ, zero, suc, ◌+◌, ◌-◌, ◌*◌, ◌/◌, ◌^◌, ◌<◌, ◌≤◌, Bool, true, false, List, [], ◌∷◌, get_or, Option, Some, None, refl, sym, ap, ◌∙◌, arith, nat_lt, cond}
use Rattle.std.specs.Str.{bytes_eq}
use Rattle.std.proofs.lemmas.Bool.{ltb-true}
use Rattle.std.proofs.lemmas.Slice.Eq.{bytes_eq-Decides}
use Rattle.tmr_base.proofs.NumberLaws.{number_again}
use Rattle.vcd_text.specs.Text.{digits, code_text, change_line, time_line}
use Rattle.vcd_text.specs.At.{time_of, change_of, or_else, nearest_time, last_change}
use Rattle.vcd_text.proofs.Puts.{low, high, le_of}

-- the number whose code this is
abbrev decode : List ℕ → ℕ
decode [] = 0
decode (b ∷ bytes) = (b - 33) + 94 * decode bytes

decode_digits : (m k : ℕ) → k < m → decode (digits m k) ≡ k
decode_digits zero k lt = absurd (omega arith)
decode_digits (suc m) k lt = one_more m k lt (nat_lt k 94) refl (λ a. decode_digits m (k / 94) a)
  where
    one_more : (m k : ℕ) → k < suc m → (b : Bool) → nat_lt k 94 ≡ b → (k / 94 < m → decode (digits m (k / 94)) ≡ k / 94) → decode (digits (suc m) k) ≡ k
    one_more m k lt true e again = ap decode (low m k e) ∙ (let small : k < 94 = ltb-true k 94 e in omega arith)
    one_more m k lt false e again = let big : 94 ≤ k = le_of k 94 e in ap decode (high m k e) ∙ (let rest : decode (digits m (k / 94)) ≡ k / 94 = again (omega (arith, big)) in omega (arith, rest))

pub code_differs : (j k : ℕ) → code_text j ≡ code_text k → j ≡ k
code_differs j k e = sym (decode_digits (suc j) j (omega arith)) ∙ (ap decode e ∙ decode_digits (suc k) k (omega arith))

unequal : (xs ys : List ℕ) → xs ≢ ys → bytes_eq xs ys ≡ false
unequal xs ys ne = go (bytes_eq xs ys) refl
  where
    go : (b : Bool) → bytes_eq xs ys ≡ b → b ≡ false
    go true e = absurd (ne ((bytes_eq-Decides xs ys).0 e))
    go false e = refl

equal : (xs : List ℕ) → bytes_eq xs xs ≡ true
equal xs = (bytes_eq-Decides xs xs).1 refl

-- a line that is no change line with this code
pub no_change : (code line : List ℕ) → ((value : Bool) → line ≢ change_line value code) → change_of code line ≡ None
no_change code line ne = rw (unequal line (change_line true code) (ne true), unequal line (change_line false code) (ne false)) refl

abbrev first : List ℕ → ℕ
first line = get_or line 0 0

pub not_by_first : (code line : List ℕ) → get_or line 0 0 < 48 → (value : Bool) → line ≢ change_line value code
not_by_first code line lt true e = let f : get_or line 0 0 ≡ 49 = ap first e in absurd (omega (arith, f))
not_by_first code line lt false e = let f : get_or line 0 0 ≡ 48 = ap first e in absurd (omega (arith, f))

pub same_change : (a b : Bool) (code other : List ℕ) → change_line a other ≡ change_line b code → (a ≡ b) × (other ≡ code)
same_change true true code other e = (refl, ap (λ (l : List ℕ). rest l) e)
  where
    rest : List ℕ → List ℕ
    rest [] = []
    rest (b ∷ bytes) = bytes
same_change false false code other e = (refl, ap (λ (l : List ℕ). rest l) e)
  where
    rest : List ℕ → List ℕ
    rest [] = []
    rest (b ∷ bytes) = bytes
same_change true false code other e = let f : first (change_line true other) ≡ first (change_line false code) = ap first e in absurd (omega (arith, f))
same_change false true code other e = let f : first (change_line false other) ≡ first (change_line true code) = ap first e in absurd (omega (arith, f))

pub change_is : (value : Bool) (code : List ℕ) → change_of code (change_line value code) ≡ Some value
change_is true code = rw (equal (change_line true code)) refl
change_is false code = rw (unequal (change_line false code) (change_line true code) (λ e. let f : first (change_line false code) ≡ first (change_line true code) = ap first e in absurd (omega (arith, f))), equal (change_line false code)) refl

pub change_other : (value : Bool) (code other : List ℕ) → other ≢ code → change_of code (change_line value other) ≡ None
change_other value code other ne = no_change code (change_line value other) (λ v e. ne (same_change value v code other e).1)

pub change_time : (value : Bool) (code : List ℕ) → time_of (change_line value code) ≡ None
change_time true code = refl
change_time false code = refl

pub time_is : (t : ℕ) → t < 2 ^ 64 → time_of (time_line t) ≡ Some t
time_is t lt = number_again 64 t lt lt

pub nearest_more : (line : List ℕ) (earlier : List (List ℕ)) → time_of line ≡ None → nearest_time (line ∷ earlier) ≡ nearest_time earlier
unfolding nearest_time
nearest_more line earlier e = ap (λ o. or_else o (nearest_time earlier)) e

pub nearest_is : (line : List ℕ) (earlier : List (List ℕ)) (t : ℕ) → time_of line ≡ Some t → nearest_time (line ∷ earlier) ≡ Some t
unfolding nearest_time
nearest_is line earlier t e = ap (λ o. or_else o (nearest_time earlier)) e

go_other : (b : Bool) (o : Option Bool) (change : Option Bool) → change ≡ None → cond b (or_else change o) o ≡ o
go_other true o None e = refl
go_other false o None e = refl
go_other b o (Some v) e = absurd cc

-- a line that tells nothing of this code
pub last_other : (within : Option ℕ → Bool) (code line : List ℕ) (earlier : List (List ℕ)) → change_of code line ≡ None → last_change within code (line ∷ earlier) ≡ last_change within code earlier
unfolding last_change
last_other within code line earlier e = go_other (within (nearest_time earlier)) (last_change within code earlier) (change_of code line) e

-- a line out of time
pub last_late : (within : Option ℕ → Bool) (code line : List ℕ) (earlier : List (List ℕ)) → within (nearest_time earlier) ≡ false → last_change within code (line ∷ earlier) ≡ last_change within code earlier
unfolding last_change
last_late within code line earlier e = ap (λ b. cond b (or_else (change_of code line) (last_change within code earlier)) (last_change within code earlier)) e

pub last_is : (within : Option ℕ → Bool) (code : List ℕ) (value : Bool) (earlier : List (List ℕ)) → within (nearest_time earlier) ≡ true → last_change within code (change_line value code ∷ earlier) ≡ Some value
unfolding last_change
last_is within code value earlier e = ap (λ b. cond b (or_else (change_of code (change_line value code)) (last_change within code earlier)) (last_change within code earlier)) e ∙ ap (λ o. or_else o (last_change within code earlier)) (change_is value code)
