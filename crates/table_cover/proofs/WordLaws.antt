-- Bits of words, and rows that words match.
use Rattle.std.proofs.Common.{◌≡◌, ℕ, zero, suc, ◌+◌, ◌-◌, ◌^◌, ◌<◌, min, max, Bool, true, false, not, ◌&&◌, ◌||◌, List, [], ◌∷◌, length, drop, slice_index, refl, ap, ◌∙◌, arith}
use Rattle.std.specs.Prelude.{nat_eq, bit_and, bit_or, ◌⊎◌}
use Rattle.std.proofs.Common.{inl, inr}
use Rattle.std.specs.Int.{bit_at, w64}
use Rattle.std.proofs.lemmas.Nat.Bits.{bit_at_and, bit_at_or, bit_at_not, bit_at_ones, bit_at-zero, bit_at-lt}
use Rattle.table_cover.specs.Cover.{mark_fits, row_matches}
use Rattle.table_cover.specs.Words.{word_bit, bits_of}

bit : (a : ℕ) → a < 2 → (a ≡ 0) ⊎ (a ≡ 1)
bit zero l = inl refl
bit (suc zero) l = inr refl
bit (suc (suc a)) l = absurd (omega arith)

least : (a b : ℕ) → a < 2 → b < 2 → nat_eq (min a b) 1 ≡ (nat_eq a 1 && nat_eq b 1)
least zero b l m = ap (λ (n : ℕ). nat_eq n 1) (let e : min 0 b ≡ 0 = omega arith in e)
least (suc zero) zero l m = refl
least (suc zero) (suc zero) l m = refl
least (suc zero) (suc (suc b)) l m = absurd (omega arith)
least (suc (suc a)) b l m = absurd (omega arith)

most : (a b : ℕ) → a < 2 → b < 2 → nat_eq (max a b) 1 ≡ (nat_eq a 1 || nat_eq b 1)
most zero b l m = ap (λ (n : ℕ). nat_eq n 1) (let e : max 0 b ≡ b = omega arith in e)
most (suc zero) zero l m = refl
most (suc zero) (suc zero) l m = refl
most (suc zero) (suc (suc b)) l m = absurd (omega arith)
most (suc (suc a)) b l m = absurd (omega arith)

other : (a : ℕ) → a < 2 → nat_eq (1 - a) 1 ≡ not (nat_eq a 1)
other zero l = refl
other (suc zero) l = refl
other (suc (suc a)) l = absurd (omega arith)

pub word_bit_and : (j a b : ℕ) → word_bit j (bit_and a b) ≡ (word_bit j a && word_bit j b)
unfolding word_bit
word_bit_and j a b = ap (λ (n : ℕ). nat_eq n 1) (bit_at_and a b j) ∙ least (bit_at a j) (bit_at b j) (bit_at-lt a j) (bit_at-lt b j)

pub word_bit_or : (j a b : ℕ) → word_bit j (bit_or a b) ≡ (word_bit j a || word_bit j b)
unfolding word_bit
word_bit_or j a b = ap (λ (n : ℕ). nat_eq n 1) (bit_at_or a b j) ∙ most (bit_at a j) (bit_at b j) (bit_at-lt a j) (bit_at-lt b j)

pub word_bit_not : (j a : ℕ) → j < 64 → a < 2 ^ 64 → word_bit j (18446744073709551615 - a) ≡ not (word_bit j a)
unfolding word_bit
word_bit_not j a l h = ap (λ (n : ℕ). nat_eq n 1) (bit_at_not w64 a j h l) ∙ other (bit_at a j) (bit_at-lt a j)

pub word_bit_ones : (j : ℕ) → j < 64 → word_bit j 18446744073709551615 ≡ true
unfolding word_bit
word_bit_ones j l = ap (λ (n : ℕ). nat_eq n 1) (bit_at_ones 64 j l)

pub word_bit_zero : (j : ℕ) → word_bit j 0 ≡ false
unfolding word_bit
word_bit_zero j = ap (λ (n : ℕ). nat_eq n 1) (bit_at-zero j)

pub ruleset word_bits = (word_bit_and, word_bit_or, word_bit_not, word_bit_ones, word_bit_zero)

pub row_next : (j : ℕ) (row words : List ℕ) (i : ℕ) → i < length row → length row ≡ length words →
    row_matches (drop i row) (bits_of j (drop i words)) ≡ (mark_fits (slice_index row i) (word_bit j (slice_index words i)) && row_matches (drop (i + 1) row) (bits_of j (drop (i + 1) words)))
row_next j [] words i l e = absurd (omega arith)
row_next j (m ∷ row) [] i l e = absurd (omega arith)
row_next j (m ∷ row) (w ∷ words) zero l e = refl
row_next j (m ∷ row) (w ∷ words) (suc i) l e = let k : suc i + 1 ≡ suc (i + 1) = omega arith in rw k (row_next j row words i (omega arith) (omega arith))

and_step : (a r m rest more whole : Bool) → (a && rest) ≡ whole → r ≡ m → rest ≡ (m && more) → ((a && r) && more) ≡ whole
and_step true r m rest more whole e f g = cc
and_step false r m rest more whole e f g = e

or_step : (a r m rest more whole : Bool) → (a || rest) ≡ whole → r ≡ m → rest ≡ (m || more) → ((a || r) || more) ≡ whole
or_step true r m rest more whole e f g = e
or_step false r m rest more whole e f g = cc

-- one mark more
pub all_next : (j all one : ℕ) (m rest more whole : Bool) → (word_bit j all && rest) ≡ whole → word_bit j one ≡ m → rest ≡ (m && more) → (word_bit j (bit_and all one) && more) ≡ whole
all_next j all one m rest more whole e f g = ap (λ (b : Bool). b && more) (word_bit_and j all one) ∙ and_step (word_bit j all) (word_bit j one) m rest more whole e f g

-- one row more
pub any_next : (j any one : ℕ) (m rest more whole : Bool) → (word_bit j any || rest) ≡ whole → word_bit j one ≡ m → rest ≡ (m || more) → (word_bit j (bit_or any one) || more) ≡ whole
any_next j any one m rest more whole e f g = ap (λ (b : Bool). b || more) (word_bit_or j any one) ∙ or_step (word_bit j any) (word_bit j one) m rest more whole e f g
