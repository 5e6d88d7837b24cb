-- Words of which one run has its bit.
use Rattle.std.proofs.Common.{◌≡◌, ◌≢◌, ℕ, ◌*◌, ◌<◌, ◌/◌, ◌%◌, ◌^◌, ◌⊎◌, inl, inr, sym, ◌∙◌, ap, refl, arith}
use Rattle.std.specs.Prelude.{nat_eq, bit_or}
use Rattle.std.specs.Int.{bit_at}
use Rattle.std.proofs.lemmas.Bool.{eq-eqb, ne_eqb}
use Rattle.std.proofs.lemmas.Nat.Bits.{bit_at-pow_same, bit_at-pow_other}
use Rattle.std.proofs.Math.Pow.{pow-lt}
use Rattle.table_cover.specs.Words.{word_bit}
use Rattle.table_cover.proofs.WordLaws.{word_bit_or}

pub equal_or_not : (a b : ℕ) → (a ≡ b) ⊎ (a ≢ b)
equal_or_not a b = grind arith

pub run_bit : (i j : ℕ) → word_bit i (2 ^ j) ≡ nat_eq i j
unfolding word_bit
run_bit i j = go (equal_or_not i j)
  where
    go : (i ≡ j) ⊎ (i ≢ j) → nat_eq (bit_at (2 ^ j) i) 1 ≡ nat_eq i j
    go (inl e) = ap (λ (k : ℕ). nat_eq (bit_at (2 ^ j) k) 1) e ∙ (ap (λ (k : ℕ). nat_eq k 1) (bit_at-pow_same j) ∙ sym (eq-eqb i j e))
    go (inr e) = ap (λ (k : ℕ). nat_eq k 1) (bit_at-pow_other j i e) ∙ sym (ne_eqb i j e)

pub run_word_bit : (i j : ℕ) → j < 64 → word_bit i (1 * 2 ^ j % 18446744073709551616) ≡ nat_eq i j
run_word_bit i j l =
    let small : 2 ^ j < 2 ^ 64 = pow-lt l in
    let same : 1 * 2 ^ j % 18446744073709551616 ≡ 2 ^ j = omega arith in
    ap (word_bit i) same ∙ run_bit i j

pub ruleset run_words = (run_word_bit)

pub shifted_bit : (word j : ℕ) → nat_eq (word / 2 ^ j % 2) 1 ≡ word_bit j word
unfolding word_bit
shifted_bit word j = refl

pub ruleset shifted_words = (shifted_bit)

pub ruleset added_bits = (word_bit_or)
