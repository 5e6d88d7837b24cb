-- Rows of bits.
use Rattle.std.proofs.Common.{◌≡◌, ℕ, ◌+◌, ◌-◌, ◌*◌, ◌/◌, ◌%◌, ◌^◌, ◌<◌, ◌≤◌, ◌⊎◌, inl, inr, Bool, true, false, ◌||◌, ◌&&◌, List, [], ◌∷◌, ◌++◌, length, set, get_or, replicate, refl, sym, ◌∙◌, ap, subst, arith}
use Rattle.std.specs.Prelude.{nat_eq, bit_and, bit_or}
use Rattle.std.specs.Int.{bit_at, w64}
use Rattle.std.proofs.lemmas.Bool.{cases_eq, cases_lt, true≢false}
use Rattle.std.proofs.lemmas.List.{get_or-set_same, get_or-set_other, get_or_default, get_or_past, get_or-replicate, length-replicate, length_push, get_or_push}
use Rattle.std.proofs.lemmas.Nat.Bits.{bit_at_set_same, bit_at_clear_other, bit_at_mask_inside, ones_shl}
use Rattle.table_cover.specs.Words.{word_bit}
use Rattle.table_cover.proofs.WordLaws.{word_bit_and, word_bit_or, word_bit_ones, word_bit_zero}
use Rattle.partitioner.specs.Private.Marks.{has_bit, Covers}

in_either : (b o : Bool) → b ≡ true → (b || o) ≡ true
in_either true o e = refl
in_either false o e = absurd (true≢false (sym e))

-- a word of a row replaced by another
pub bits_kept : (words : List ℕ) (k was now r : ℕ) → k < length words → was ≡ get_or words k was → (r / 64 ≡ k → word_bit (r % 64) was ≡ true → word_bit (r % 64) now ≡ true) → has_bit words r ≡ true → has_bit (set words k now) r ≡ true
bits_kept words k was now r l at kept h = go (cases_eq (r / 64) k)
  where
    go : (r / 64 ≡ k) ⊎ (r / 64 ≡ k → ⊥) → has_bit (set words k now) r ≡ true
    go (inl e) =
        let here : get_or (set words k now) (r / 64) 18446744073709551615 ≡ now = ap (λ (w : ℕ). get_or (set words k now) w 18446744073709551615) e ∙ get_or-set_same words k now 18446744073709551615 l in
        let before : get_or words (r / 64) 18446744073709551615 ≡ was = ap (λ (w : ℕ). get_or words w 18446744073709551615) e ∙ (get_or_default words k 18446744073709551615 was l ∙ sym at) in
        ap (word_bit (r % 64)) here ∙ kept e (sym (ap (word_bit (r % 64)) before) ∙ h)
    go (inr ne) = ap (word_bit (r % 64)) (get_or-set_other words k (r / 64) now 18446744073709551615 ne) ∙ h

pub bit_set_kept : (j was mask : ℕ) → word_bit j was ≡ true → word_bit j (bit_or was mask) ≡ true
bit_set_kept j was mask h = word_bit_or j was mask ∙ in_either (word_bit j was) (word_bit j mask) h

pub bit_set_here : (words : List ℕ) (q was : ℕ) → q / 64 < length words → has_bit (set words (q / 64) (bit_or was (1 * 2 ^ (q % 64) % 18446744073709551616))) q ≡ true
unfolding word_bit
bit_set_here words q was l =
    ap (λ (w : ℕ). nat_eq (bit_at w (q % 64)) 1) (get_or-set_same words (q / 64) (bit_or was (1 * 2 ^ (q % 64) % 18446744073709551616)) 18446744073709551615 l)
    ∙ ap (λ (b : ℕ). nat_eq b 1) (bit_at_set_same w64 was (q % 64) (omega arith))

pub bit_past : (words : List ℕ) (q : ℕ) → length words ≤ q / 64 → has_bit words q ≡ true
bit_past words q past = ap (word_bit (q % 64)) (get_or_past words (q / 64) 18446744073709551615 past) ∙ word_bit_ones (q % 64) (omega arith)

pub bit_clear_kept : (q r was : ℕ) → (q ≡ r → ⊥) → r / 64 ≡ q / 64 → word_bit (r % 64) was ≡ true → word_bit (r % 64) (bit_and was (18446744073709551615 - 1 * 2 ^ (q % 64) % 18446744073709551616)) ≡ true
unfolding word_bit
bit_clear_kept q r was ne e h =
    ap (λ (b : ℕ). nat_eq b 1) (bit_at_clear_other w64 was (q % 64) (omega arith) (r % 64) (omega arith) (λ same. ne (omega (arith, e, same)))) ∙ h

pub bit_elsewhere : (words : List ℕ) (k now r : ℕ) → (r / 64 ≡ k → ⊥) → has_bit (set words k now) r ≡ has_bit words r
bit_elsewhere words k now r ne = ap (word_bit (r % 64)) (get_or-set_other words k (r / 64) now 18446744073709551615 ne)

both_first : (a b : Bool) → (a && b) ≡ true → a ≡ true
both_first true b e = refl
both_first false b e = e

-- a word of a row replaced by one with fewer bits
pub bits_fewer : (words : List ℕ) (k was mask r : ℕ) → k < length words → was ≡ get_or words k was → has_bit (set words k (bit_and was mask)) r ≡ true → has_bit words r ≡ true
bits_fewer words k was mask r l at h = go (cases_eq (r / 64) k)
  where
    go : (r / 64 ≡ k) ⊎ (r / 64 ≡ k → ⊥) → has_bit words r ≡ true
    go (inl e) =
        let here : get_or (set words k (bit_and was mask)) (r / 64) 18446744073709551615 ≡ bit_and was mask = ap (λ (w : ℕ). get_or (set words k (bit_and was mask)) w 18446744073709551615) e ∙ get_or-set_same words k (bit_and was mask) 18446744073709551615 l in
        let before : get_or words (r / 64) 18446744073709551615 ≡ was = ap (λ (w : ℕ). get_or words w 18446744073709551615) e ∙ (get_or_default words k 18446744073709551615 was l ∙ sym at) in
        let both : (word_bit (r % 64) was && word_bit (r % 64) mask) ≡ true = sym (word_bit_and (r % 64) was mask) ∙ (sym (ap (word_bit (r % 64)) here) ∙ h) in
        ap (word_bit (r % 64)) before ∙ both_first (word_bit (r % 64) was) (word_bit (r % 64) mask) both
    go (inr ne) = sym (bit_elsewhere words k (bit_and was mask) r ne) ∙ h

-- all bits from j on
high_bits : (j i : ℕ) → j ≤ i → i < 64 → word_bit i (18446744073709551615 * 2 ^ j % 18446744073709551616) ≡ true
unfolding word_bit
high_bits j i from l =
    ap (λ (n : ℕ). nat_eq (bit_at n i) 1) (ones_shl 64 j (omega (arith, from, l))) ∙ ap (λ (b : ℕ). nat_eq b 1) (bit_at_mask_inside j 64 i from l)

-- the bits past so many
pub bits_past : (words w : ℕ) (blocks : List ℕ) → blocks ≡ replicate (words / 64) 0 ++ (18446744073709551615 * 2 ^ (words % 64) % 18446744073709551616) ∷ [] → words ≤ w → has_bit blocks w ≡ true
bits_past words w blocks e from = subst (λ (xs : List ℕ). has_bit xs w ≡ true) (sym e) (go (cases_eq (w / 64) (words / 64)))
  where
    last : ℕ
    last = 18446744073709551615 * 2 ^ (words % 64) % 18446744073709551616

    long : length (replicate (words / 64) 0 ++ last ∷ []) ≡ words / 64 + 1
    long = length_push (replicate (words / 64) 0) last ∙ ap (λ (k : ℕ). k + 1) (length-replicate (words / 64) 0)

    go : (w / 64 ≡ words / 64) ⊎ (w / 64 ≡ words / 64 → ⊥) → has_bit (replicate (words / 64) 0 ++ last ∷ []) w ≡ true
    go (inl same) =
        let here : get_or (replicate (words / 64) 0 ++ last ∷ []) (w / 64) 18446744073709551615 ≡ last = get_or_push (replicate (words / 64) 0) last 18446744073709551615 (w / 64) (length-replicate (words / 64) 0 ∙ sym same) in
        ap (word_bit (w % 64)) here ∙ high_bits (words % 64) (w % 64) (omega (arith, from, same)) (omega arith)
    go (inr ne) = bit_past (replicate (words / 64) 0 ++ last ∷ []) w (omega (arith, long, from, ne))

-- a row of words of which none has a bit set
pub zeros_covered : (n : ℕ) (blocks : List ℕ) → ((w : ℕ) → n ≤ w → has_bit blocks w ≡ true) → Covers blocks (replicate n 0)
zeros_covered n blocks past q h = past (q / 64) (go (cases_lt (q / 64) n))
  where
    go : (q / 64 < n) ⊎ (n ≤ q / 64) → n ≤ q / 64
    go (inl l) = absurd (true≢false (sym h ∙ (ap (word_bit (q % 64)) (get_or-replicate n (q / 64) 0 18446744073709551615 l) ∙ word_bit_zero (q % 64))))
    go (inr l) = l

-- the bit of a word without bits is cleared
pub covers_closed : (w : ℕ) (blocks blocks' words : List ℕ) → Covers blocks words → get_or words w 18446744073709551615 ≡ 0 → ((r : ℕ) → (w ≡ r → ⊥) → has_bit blocks r ≡ true → has_bit blocks' r ≡ true) → Covers blocks' words
covers_closed w blocks blocks' words before none kept q h = go (cases_eq w (q / 64))
  where
    go : (w ≡ q / 64) ⊎ (w ≡ q / 64 → ⊥) → has_bit blocks' (q / 64) ≡ true
    go (inl e) = absurd (true≢false (sym h ∙ (ap (word_bit (q % 64)) (sym (ap (λ (k : ℕ). get_or words k 18446744073709551615) e) ∙ none) ∙ word_bit_zero (q % 64))))
    go (inr ne) = kept (q / 64) ne (before q h)
