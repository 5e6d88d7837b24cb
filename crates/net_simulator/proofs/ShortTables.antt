-- The values of short tables in words.
use Rattle.std.proofs.Common.{◌≡◌, ℕ, zero, suc, ◌+◌, ◌*◌, ◌/◌, ◌%◌, ◌^◌, ◌<◌, Bool, true, false, not, ◌&&◌, ◌||◌, List, [], ◌∷◌, get_or, length, map, slice_index, refl, sym, ◌∙◌, ap, arith}
use Rattle.std.specs.Prelude.{nat_eq}
use Rattle.std.specs.Option.{unwrap_or}
use Rattle.std.proofs.lemmas.Nat.{shr-shr}
use Rattle.tmr_base.specs.declared.ids.NetId.{NetId}
use Rattle.table_cover.specs.Words.{word_bit}
use Rattle.table_cover.proofs.WordLaws.{word_bit_not, word_bit_ones, word_bit_zero}
use Rattle.net_simulator.specs.Settled.{mark}
use Rattle.net_simulator.specs.Truth.{number_from, ends_of}

-- a word's last digit
pub lowest_bit : (word : ℕ) → nat_eq (word % 2) 1 ≡ word_bit 0 word
unfolding word_bit
lowest_bit word = ap (λ (k : ℕ). nat_eq (k % 2) 1) (let e : word ≡ word / 2 ^ 0 = omega arith in e)

-- the pin before the others chooses between two halves
pub chosen_half : (a zero_bit one_bit : Bool) (word high : ℕ) (bits : List Bool)
    → zero_bit ≡ word_bit (number_from (2 * high) bits) word → one_bit ≡ word_bit (number_from (2 * high + 1) bits) word
    → unwrap_or (mark a one_bit) zero_bit ≡ word_bit (number_from high (a ∷ bits)) word
chosen_half true zero_bit one_bit word high bits e f = f
chosen_half false zero_bit one_bit word high bits e f = e ∙ ap (λ (k : ℕ). word_bit (number_from k bits) word) (let s : 2 * high ≡ 2 * high + 0 = omega arith in s)

-- two neighbours of a word's bits
low_of : (word high : ℕ) → word_bit (2 * high + 0) word ≡ nat_eq (word / 2 ^ (2 * high) % 4 % 2) 1
unfolding word_bit
low_of word high =
    ap (λ (k : ℕ). nat_eq (word / 2 ^ k % 2) 1) (let s : 2 * high + 0 ≡ 2 * high = omega arith in s)
    ∙ ap (λ (k : ℕ). nat_eq k 1) (let m : ℕ = word / 2 ^ (2 * high) in let e : m % 2 ≡ m % 4 % 2 = omega arith in e)

high_of : (word high : ℕ) → word_bit (2 * high + 1) word ≡ nat_eq (word / 2 ^ (2 * high) % 4 / 2) 1
unfolding word_bit
high_of word high =
    ap (λ (k : ℕ). nat_eq (k % 2) 1) (sym (shr-shr word (2 * high) 1))
    ∙ ap (λ (k : ℕ). nat_eq k 1) (let m : ℕ = word / 2 ^ (2 * high) in let e : m / 2 ^ 1 % 2 ≡ m % 4 / 2 = omega arith in e)

pair_bit : (b : Bool) (r : ℕ) → Bool
pair_bit true r = nat_eq (r / 2) 1
pair_bit false r = nat_eq (r % 2) 1

pair_is : (b : Bool) (word high : ℕ) → word_bit (number_from high (b ∷ [])) word ≡ pair_bit b (word / 2 ^ (2 * high) % 4)
unfolding pair_bit
pair_is true word high = high_of word high
pair_is false word high = low_of word high

never : (b : Bool) → false ≡ pair_bit b 0
unfolding pair_bit
never true = refl
never false = refl

turned : (b : Bool) → not b ≡ pair_bit b 1
unfolding pair_bit
turned true = refl
turned false = refl

same : (b : Bool) → b ≡ pair_bit b 2
unfolding pair_bit
same true = refl
same false = refl

always : (b : Bool) → true ≡ pair_bit b 3
unfolding pair_bit
always true = refl
always false = refl

end_bit : (j x r : ℕ) → j < 64 → x < 2 ^ 64 → r < 4 → word_bit j (slice_index (ends_of x) r) ≡ pair_bit (word_bit j x) r
end_bit j x zero l h b = word_bit_zero j ∙ never (word_bit j x)
end_bit j x (suc zero) l h b = word_bit_not j x l h ∙ turned (word_bit j x)
end_bit j x (suc (suc zero)) l h b = same (word_bit j x)
end_bit j x (suc (suc (suc zero))) l h b = word_bit_ones j l ∙ always (word_bit j x)
end_bit j x (suc (suc (suc (suc r)))) l h b = absurd (omega arith)

-- the last pin leaves one of four words
pub last_pin : (j x word high : ℕ) → j < 64 → x < 2 ^ 64 → word_bit j (slice_index (ends_of x) (word / 2 ^ (2 * high) % 4)) ≡ word_bit (number_from high (word_bit j x ∷ [])) word
last_pin j x word high l h = end_bit j x (word / 2 ^ (2 * high) % 4) l h (let m : ℕ = word / 2 ^ (2 * high) in omega arith) ∙ sym (pair_is (word_bit j x) word high)

-- this word's bits are the majority of three
pub majority_bit : (a b c : Bool) → ((a && b) || (c && (a || b))) ≡ word_bit (number_from 0 (a ∷ b ∷ c ∷ [])) 16782920098433788136
unfolding word_bit
majority_bit true true true = refl
majority_bit true true false = refl
majority_bit true false true = refl
majority_bit true false false = refl
majority_bit false true true = refl
majority_bit false true false = refl
majority_bit false false true = refl
majority_bit false false false = refl

-- values of pins that are read one by one
pub read_none : (f : NetId → Bool) (pins : List NetId) → length pins < 1 → map f pins ≡ []
read_none f [] l = refl
read_none f (p ∷ pins) l = absurd (omega arith)

pub read_four : (f : NetId → Bool) (pins : List NetId) (d0 d1 d2 d3 : NetId) (b0 b1 b2 b3 : Bool) → length pins ≡ 4 → b0 ≡ f (get_or pins 0 d0) → b1 ≡ f (get_or pins 1 d1) → b2 ≡ f (get_or pins 2 d2) → b3 ≡ f (get_or pins 3 d3) → map f pins ≡ b0 ∷ b1 ∷ b2 ∷ b3 ∷ []
read_four f [] d0 d1 d2 d3 b0 b1 b2 b3 l e0 e1 e2 e3 = absurd (omega arith)
read_four f (p0 ∷ []) d0 d1 d2 d3 b0 b1 b2 b3 l e0 e1 e2 e3 = absurd (omega arith)
read_four f (p0 ∷ p1 ∷ []) d0 d1 d2 d3 b0 b1 b2 b3 l e0 e1 e2 e3 = absurd (omega arith)
read_four f (p0 ∷ p1 ∷ p2 ∷ []) d0 d1 d2 d3 b0 b1 b2 b3 l e0 e1 e2 e3 = absurd (omega arith)
read_four f (p0 ∷ p1 ∷ p2 ∷ p3 ∷ []) d0 d1 d2 d3 b0 b1 b2 b3 l e0 e1 e2 e3 = ap (λ (z : Bool). z ∷ f p1 ∷ f p2 ∷ f p3 ∷ []) (sym e0) ∙ (ap (λ (z : Bool). b0 ∷ z ∷ f p2 ∷ f p3 ∷ []) (sym e1) ∙ (ap (λ (z : Bool). b0 ∷ b1 ∷ z ∷ f p3 ∷ []) (sym e2) ∙ (ap (λ (z : Bool). b0 ∷ b1 ∷ b2 ∷ z ∷ []) (sym e3))))
read_four f (p0 ∷ p1 ∷ p2 ∷ p3 ∷ q ∷ more) d0 d1 d2 d3 b0 b1 b2 b3 l e0 e1 e2 e3 = absurd (omega arith)

pub read_five : (f : NetId → Bool) (pins : List NetId) (d0 d1 d2 d3 d4 : NetId) (b0 b1 b2 b3 b4 : Bool) → length pins ≡ 5 → b0 ≡ f (get_or pins 0 d0) → b1 ≡ f (get_or pins 1 d1) → b2 ≡ f (get_or pins 2 d2) → b3 ≡ f (get_or pins 3 d3) → b4 ≡ f (get_or pins 4 d4) → map f pins ≡ b0 ∷ b1 ∷ b2 ∷ b3 ∷ b4 ∷ []
read_five f [] d0 d1 d2 d3 d4 b0 b1 b2 b3 b4 l e0 e1 e2 e3 e4 = absurd (omega arith)
read_five f (p0 ∷ []) d0 d1 d2 d3 d4 b0 b1 b2 b3 b4 l e0 e1 e2 e3 e4 = absurd (omega arith)
read_five f (p0 ∷ p1 ∷ []) d0 d1 d2 d3 d4 b0 b1 b2 b3 b4 l e0 e1 e2 e3 e4 = absurd (omega arith)
read_five f (p0 ∷ p1 ∷ p2 ∷ []) d0 d1 d2 d3 d4 b0 b1 b2 b3 b4 l e0 e1 e2 e3 e4 = absurd (omega arith)
read_five f (p0 ∷ p1 ∷ p2 ∷ p3 ∷ []) d0 d1 d2 d3 d4 b0 b1 b2 b3 b4 l e0 e1 e2 e3 e4 = absurd (omega arith)
read_five f (p0 ∷ p1 ∷ p2 ∷ p3 ∷ p4 ∷ []) d0 d1 d2 d3 d4 b0 b1 b2 b3 b4 l e0 e1 e2 e3 e4 = ap (λ (z : Bool). z ∷ f p1 ∷ f p2 ∷ f p3 ∷ f p4 ∷ []) (sym e0) ∙ (ap (λ (z : Bool). b0 ∷ z ∷ f p2 ∷ f p3 ∷ f p4 ∷ []) (sym e1) ∙ (ap (λ (z : Bool). b0 ∷ b1 ∷ z ∷ f p3 ∷ f p4 ∷ []) (sym e2) ∙ (ap (λ (z : Bool). b0 ∷ b1 ∷ b2 ∷ z ∷ f p4 ∷ []) (sym e3) ∙ (ap (λ (z : Bool). b0 ∷ b1 ∷ b2 ∷ b3 ∷ z ∷ []) (sym e4)))))
read_five f (p0 ∷ p1 ∷ p2 ∷ p3 ∷ p4 ∷ q ∷ more) d0 d1 d2 d3 d4 b0 b1 b2 b3 b4 l e0 e1 e2 e3 e4 = absurd (omega arith)

pub read_six : (f : NetId → Bool) (pins : List NetId) (d0 d1 d2 d3 d4 d5 : NetId) (b0 b1 b2 b3 b4 b5 : Bool) → length pins ≡ 6 → b0 ≡ f (get_or pins 0 d0) → b1 ≡ f (get_or pins 1 d1) → b2 ≡ f (get_or pins 2 d2) → b3 ≡ f (get_or pins 3 d3) → b4 ≡ f (get_or pins 4 d4) → b5 ≡ f (get_or pins 5 d5) → map f pins ≡ b0 ∷ b1 ∷ b2 ∷ b3 ∷ b4 ∷ b5 ∷ []
read_six f [] d0 d1 d2 d3 d4 d5 b0 b1 b2 b3 b4 b5 l e0 e1 e2 e3 e4 e5 = absurd (omega arith)
read_six f (p0 ∷ []) d0 d1 d2 d3 d4 d5 b0 b1 b2 b3 b4 b5 l e0 e1 e2 e3 e4 e5 = absurd (omega arith)
read_six f (p0 ∷ p1 ∷ []) d0 d1 d2 d3 d4 d5 b0 b1 b2 b3 b4 b5 l e0 e1 e2 e3 e4 e5 = absurd (omega arith)
read_six f (p0 ∷ p1 ∷ p2 ∷ []) d0 d1 d2 d3 d4 d5 b0 b1 b2 b3 b4 b5 l e0 e1 e2 e3 e4 e5 = absurd (omega arith)
read_six f (p0 ∷ p1 ∷ p2 ∷ p3 ∷ []) d0 d1 d2 d3 d4 d5 b0 b1 b2 b3 b4 b5 l e0 e1 e2 e3 e4 e5 = absurd (omega arith)
read_six f (p0 ∷ p1 ∷ p2 ∷ p3 ∷ p4 ∷ []) d0 d1 d2 d3 d4 d5 b0 b1 b2 b3 b4 b5 l e0 e1 e2 e3 e4 e5 = absurd (omega arith)
read_six f (p0 ∷ p1 ∷ p2 ∷ p3 ∷ p4 ∷ p5 ∷ []) d0 d1 d2 d3 d4 d5 b0 b1 b2 b3 b4 b5 l e0 e1 e2 e3 e4 e5 = ap (λ (z : Bool). z ∷ f p1 ∷ f p2 ∷ f p3 ∷ f p4 ∷ f p5 ∷ []) (sym e0) ∙ (ap (λ (z : Bool). b0 ∷ z ∷ f p2 ∷ f p3 ∷ f p4 ∷ f p5 ∷ []) (sym e1) ∙ (ap (λ (z : Bool). b0 ∷ b1 ∷ z ∷ f p3 ∷ f p4 ∷ f p5 ∷ []) (sym e2) ∙ (ap (λ (z : Bool). b0 ∷ b1 ∷ b2 ∷ z ∷ f p4 ∷ f p5 ∷ []) (sym e3) ∙ (ap (λ (z : Bool). b0 ∷ b1 ∷ b2 ∷ b3 ∷ z ∷ f p5 ∷ []) (sym e4) ∙ (ap (λ (z : Bool). b0 ∷ b1 ∷ b2 ∷ b3 ∷ b4 ∷ z ∷ []) (sym e5))))))
read_six f (p0 ∷ p1 ∷ p2 ∷ p3 ∷ p4 ∷ p5 ∷ q ∷ more) d0 d1 d2 d3 d4 d5 b0 b1 b2 b3 b4 b5 l e0 e1 e2 e3 e4 e5 = absurd (omega arith)
