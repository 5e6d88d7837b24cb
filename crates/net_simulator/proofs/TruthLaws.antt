-- The bit of a truth word at the number of some bits is the cover's value on these bits.
use Rattle.std.proofs.Common.{◌≡◌, ◌≢◌, ℕ, zero, suc, ◌+◌, ◌-◌, ◌*◌, ◌/◌, ◌%◌, ◌^◌, ◌<◌, ◌≤◌, ◌⊎◌, inl, inr, Bool, true, false, ◌&&◌, List, [], ◌∷◌, length, drop, cond, refl, sym, ◌∙◌, ap, subst, arith}
use Rattle.std.specs.Prelude.{nat_eq}
use Rattle.std.proofs.lemmas.Nat.{shr-shr}
use Rattle.table_cover.specs.Words.{word_bit, bits_of}
use Rattle.net_simulator.specs.Truth.{number_from, places}
use Rattle.net_simulator.proofs.Settling.{equal_or_not}

half : (high : ℕ) (b : Bool) → (2 * high + cond b 1 0) / 2 ^ 1 ≡ high
half high true = omega arith
half high false = omega arith

-- what stands before the bits
pub high_part : (high : ℕ) (bits : List Bool) → number_from high bits / 2 ^ length bits ≡ high
high_part high [] = omega arith
high_part high (b ∷ bits) =
    let m : ℕ = number_from (2 * high + cond b 1 0) bits in
    ap (λ (k : ℕ). m / 2 ^ k) (let e : suc (length bits) ≡ length bits + 1 = omega arith in e)
    ∙ (sym (shr-shr m (length bits) 1) ∙ (ap (λ (k : ℕ). k / 2 ^ 1) (high_part (2 * high + cond b 1 0) bits) ∙ half high b))

odd : (high : ℕ) (b : Bool) → nat_eq ((2 * high + cond b 1 0) % 2) 1 ≡ b
odd high true = ap (λ (k : ℕ). nat_eq k 1) (let e : (2 * high + 1) % 2 ≡ 1 = omega arith in e)
odd high false = ap (λ (k : ℕ). nat_eq k 1) (let e : (2 * high + 0) % 2 ≡ 0 = omega arith in e)

-- the last `count` binary digits of a number, the highest first
abbrev pub digits : ℕ → ℕ → List Bool
digits zero n = []
digits (suc count) n = word_bit count n ∷ digits count n

-- the digits of a number are its bits
pub digits_are : (high : ℕ) (bits : List Bool) → digits (length bits) (number_from high bits) ≡ bits
unfolding word_bit
digits_are high [] = refl
digits_are high (b ∷ bits) =
    let m : ℕ = number_from (2 * high + cond b 1 0) bits in
    ap (λ (k : ℕ). nat_eq (k % 2) 1 ∷ digits (length bits) m) (high_part (2 * high + cond b 1 0) bits)
    ∙ (ap (λ (c : Bool). c ∷ digits (length bits) m) (odd high b) ∙ ap (λ (bs : List Bool). b ∷ bs) (digits_are (2 * high + cond b 1 0) bits))

abbrev same_bit : Bool → Bool → Bool
same_bit true b = b
same_bit false b = cond b false true

abbrev same_bits : List Bool → List Bool → Bool
same_bits [] [] = true
same_bits [] (b ∷ ys) = false
same_bits (a ∷ xs) [] = false
same_bits (a ∷ xs) (b ∷ ys) = same_bit a b && same_bits xs ys

abbrev places_right : ℕ → Bool
places_right zero = true
places_right (suc n) = same_bits (bits_of n places) (digits 6 n) && places_right n

all_right : places_right 64 ≡ true
unfolding word_bit
all_right = refl

both : (a b : Bool) → (a && b) ≡ true → (a ≡ true) × (b ≡ true)
both true b e = (refl, e)
both false b e = absurd (cc)

same_bit_is : (a b : Bool) → same_bit a b ≡ true → a ≡ b
same_bit_is true b e = sym e
same_bit_is false true e = e
same_bit_is false false e = refl

same_bits_are : (xs ys : List Bool) → same_bits xs ys ≡ true → xs ≡ ys
same_bits_are [] [] e = refl
same_bits_are [] (b ∷ ys) e = absurd (cc)
same_bits_are (a ∷ xs) [] e = absurd (cc)
same_bits_are (a ∷ xs) (b ∷ ys) e =
    let (one, others) = both (same_bit a b) (same_bits xs ys) e in
    ap (λ (c : Bool). c ∷ xs) (same_bit_is a b one) ∙ ap (λ (cs : List Bool). b ∷ cs) (same_bits_are xs ys others)

last_or_before : (n k : ℕ) → k < suc n → (k ≡ n → bits_of k places ≡ digits 6 k) → (k < n → bits_of k places ≡ digits 6 k) → bits_of k places ≡ digits 6 k
last_or_before n k h last before = go (equal_or_not k n)
  where
    go : (k ≡ n) ⊎ (k ≢ n) → bits_of k places ≡ digits 6 k
    go (inl same) = last same
    go (inr apart) = before (omega arith)

right_below : (n k : ℕ) → places_right n ≡ true → k < n → bits_of k places ≡ digits 6 k
right_below zero k e h = absurd (omega arith)
right_below (suc n) k e h =
    let (one, others) = both (same_bits (bits_of n places) (digits 6 n)) (places_right n) e in
    last_or_before n k h
    (λ same. subst (λ (i : ℕ). bits_of i places ≡ digits 6 i) (sym same) (same_bits_are (bits_of n places) (digits 6 n) one))
    (λ below. right_below n k others below)

-- the words behind the first 6 - count have the last `count` digits
last_digits : (count k : ℕ) → count ≤ 6 → k < 64 → bits_of k (drop (6 - count) places) ≡ digits count k
last_digits zero k h l = refl
last_digits (suc zero) k h l = ap (drop 5) (right_below 64 k all_right l)
last_digits (suc (suc zero)) k h l = ap (drop 4) (right_below 64 k all_right l)
last_digits (suc (suc (suc zero))) k h l = ap (drop 3) (right_below 64 k all_right l)
last_digits (suc (suc (suc (suc zero)))) k h l = ap (drop 2) (right_below 64 k all_right l)
last_digits (suc (suc (suc (suc (suc zero))))) k h l = ap (drop 1) (right_below 64 k all_right l)
last_digits (suc (suc (suc (suc (suc (suc zero)))))) k h l = right_below 64 k all_right l
last_digits (suc (suc (suc (suc (suc (suc (suc count))))))) k h l = absurd (omega arith)

-- the number of some bits is no less than what stands before them
pub number_least : (high : ℕ) (bits : List Bool) → high ≤ number_from high bits
number_least high [] = omega arith
number_least high (b ∷ bits) = let l = number_least (2 * high + cond b 1 0) bits in omega arith

below_64 : (count n : ℕ) → count ≤ 6 → n / 2 ^ count ≡ 0 → n < 64
below_64 zero n h e = omega arith
below_64 (suc zero) n h e = omega arith
below_64 (suc (suc zero)) n h e = omega arith
below_64 (suc (suc (suc zero))) n h e = omega arith
below_64 (suc (suc (suc (suc zero)))) n h e = omega arith
below_64 (suc (suc (suc (suc (suc zero))))) n h e = omega arith
below_64 (suc (suc (suc (suc (suc (suc zero)))))) n h e = omega arith
below_64 (suc (suc (suc (suc (suc (suc (suc count))))))) n h e = absurd (omega arith)

pub number_below : (bits : List Bool) → length bits ≤ 6 → number_from 0 bits < 64
number_below bits h = below_64 (length bits) (number_from 0 bits) h (high_part 0 bits)

-- at the number of some bits the words have these bits
pub bits_are : (bits : List Bool) → length bits ≤ 6 → bits_of (number_from 0 bits) (drop (6 - length bits) places) ≡ bits
bits_are bits h = last_digits (length bits) (number_from 0 bits) h (number_below bits h) ∙ digits_are 0 bits
