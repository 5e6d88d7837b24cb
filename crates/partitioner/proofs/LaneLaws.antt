-- Counts in the bits of words.
use Rattle.std.proofs.Common.{◌≡◌, ℕ, zero, suc, ◌+◌, ◌*◌, ◌<◌, ◌≤◌, ◌%◌, Bool, true, false, not, ◌&&◌, ◌||◌, ◌⊎◌, inl, inr, refl, sym, ap, ◌∙◌, subst, arith}
use Rattle.std.proofs.lemmas.Bool.{true≢false}
use Rattle.std.specs.Prelude.{nat_eq, bit_and, bit_or}
use lib.Bits.{bit_xor}
use Rattle.std.specs.Int.{bit_at}
use Rattle.std.proofs.lemmas.Nat.Bits.{bit_at_xor, bit_at-lt}
use Rattle.table_cover.specs.Words.{word_bit}
use Rattle.table_cover.proofs.WordLaws.{word_bit_and, word_bit_or}
use Rattle.partitioner.specs.declared.costs.lanes.Lanes.{Lanes}
use Rattle.partitioner.specs.Below.{one_if}
use Rattle.partitioner.specs.Private.Lanes.{Reaches, lane_value}

-- one of two, and not both
abbrev differ : Bool → Bool → Bool
differ true b = not b
differ false b = b

differs : (a b : ℕ) → a < 2 → b < 2 → nat_eq ((a + b) % 2) 1 ≡ differ (nat_eq a 1) (nat_eq b 1)
differs zero zero l m = refl
differs zero (suc zero) l m = refl
differs zero (suc (suc b)) l m = absurd (omega arith)
differs (suc zero) zero l m = refl
differs (suc zero) (suc zero) l m = refl
differs (suc zero) (suc (suc b)) l m = absurd (omega arith)
differs (suc (suc a)) b l m = absurd (omega arith)

word_bit_xor : (j a b : ℕ) → word_bit j (bit_xor a b) ≡ differ (word_bit j a) (word_bit j b)
unfolding word_bit
word_bit_xor j a b = ap (λ (n : ℕ). nat_eq n 1) (bit_at_xor a b j) ∙ differs (bit_at a j) (bit_at b j) (bit_at-lt a j) (bit_at-lt b j)

-- the number of four digits
abbrev digits : Bool → Bool → Bool → Bool → ℕ
digits a b c d = one_if a + 2 * one_if b + 4 * one_if c + 8 * one_if d

in_either : (b o : Bool) → b ≡ true → (b || o) ≡ true
in_either true o e = refl
in_either false o e = absurd (true≢false (sym e))

or_last : (b : Bool) → (b || true) ≡ true
or_last true = refl
or_last false = refl

-- one more runs over, or makes the number that follows
counted : (o a b c d w : Bool) (k : ℕ) → (o ≡ true) ⊎ (k ≤ digits a b c d)
    → ((o || (d && (c && (b && (a && w))))) ≡ true) ⊎ (k + one_if w ≤ digits (differ a w) (differ b (a && w)) (differ c (b && (a && w))) (differ d (c && (b && (a && w)))))
counted o a b c d w k (inl e) = inl (in_either o (d && (c && (b && (a && w)))) e)
counted o false false false false false k (inr l) = inr (omega (arith, l))
counted o false false false false true k (inr l) = inr (omega (arith, l))
counted o false false false true false k (inr l) = inr (omega (arith, l))
counted o false false false true true k (inr l) = inr (omega (arith, l))
counted o false false true false false k (inr l) = inr (omega (arith, l))
counted o false false true false true k (inr l) = inr (omega (arith, l))
counted o false false true true false k (inr l) = inr (omega (arith, l))
counted o false false true true true k (inr l) = inr (omega (arith, l))
counted o false true false false false k (inr l) = inr (omega (arith, l))
counted o false true false false true k (inr l) = inr (omega (arith, l))
counted o false true false true false k (inr l) = inr (omega (arith, l))
counted o false true false true true k (inr l) = inr (omega (arith, l))
counted o false true true false false k (inr l) = inr (omega (arith, l))
counted o false true true false true k (inr l) = inr (omega (arith, l))
counted o false true true true false k (inr l) = inr (omega (arith, l))
counted o false true true true true k (inr l) = inr (omega (arith, l))
counted o true false false false false k (inr l) = inr (omega (arith, l))
counted o true false false false true k (inr l) = inr (omega (arith, l))
counted o true false false true false k (inr l) = inr (omega (arith, l))
counted o true false false true true k (inr l) = inr (omega (arith, l))
counted o true false true false false k (inr l) = inr (omega (arith, l))
counted o true false true false true k (inr l) = inr (omega (arith, l))
counted o true false true true false k (inr l) = inr (omega (arith, l))
counted o true false true true true k (inr l) = inr (omega (arith, l))
counted o true true false false false k (inr l) = inr (omega (arith, l))
counted o true true false false true k (inr l) = inr (omega (arith, l))
counted o true true false true false k (inr l) = inr (omega (arith, l))
counted o true true false true true k (inr l) = inr (omega (arith, l))
counted o true true true false false k (inr l) = inr (omega (arith, l))
counted o true true true false true k (inr l) = inr (omega (arith, l))
counted o true true true true false k (inr l) = inr (omega (arith, l))
counted o true true true true true k (inr l) = inl (or_last o)

-- the lanes after one more
pub lanes_added : (lanes : Lanes) (word j k : ℕ) → Reaches lanes j k
    → Reaches (record {
      ones = bit_xor lanes.ones word;
      twos = bit_xor lanes.twos (bit_and lanes.ones word);
      fours = bit_xor lanes.fours (bit_and lanes.twos (bit_and lanes.ones word));
      eights = bit_xor lanes.eights (bit_and lanes.fours (bit_and lanes.twos (bit_and lanes.ones word)));
      over = bit_or lanes.over (bit_and lanes.eights (bit_and lanes.fours (bit_and lanes.twos (bit_and lanes.ones word))));
    }) j (k + one_if (word_bit j word))
lanes_added lanes word j k reached =
    both (counted (word_bit j lanes.over) (word_bit j lanes.ones) (word_bit j lanes.twos) (word_bit j lanes.fours) (word_bit j lanes.eights) (word_bit j word) k reached)
  where
    c0 : ℕ
    c0 = bit_and lanes.ones word

    c1 : ℕ
    c1 = bit_and lanes.twos c0

    c2 : ℕ
    c2 = bit_and lanes.fours c1

    c3 : ℕ
    c3 = bit_and lanes.eights c2

    at0 : word_bit j c0 ≡ (word_bit j lanes.ones && word_bit j word)
    at0 = word_bit_and j lanes.ones word

    at1 : word_bit j c1 ≡ (word_bit j lanes.twos && (word_bit j lanes.ones && word_bit j word))
    at1 = word_bit_and j lanes.twos c0 ∙ ap (λ (b : Bool). word_bit j lanes.twos && b) at0

    at2 : word_bit j c2 ≡ (word_bit j lanes.fours && (word_bit j lanes.twos && (word_bit j lanes.ones && word_bit j word)))
    at2 = word_bit_and j lanes.fours c1 ∙ ap (λ (b : Bool). word_bit j lanes.fours && b) at1

    at3 : word_bit j c3 ≡ (word_bit j lanes.eights && (word_bit j lanes.fours && (word_bit j lanes.twos && (word_bit j lanes.ones && word_bit j word))))
    at3 = word_bit_and j lanes.eights c2 ∙ ap (λ (b : Bool). word_bit j lanes.eights && b) at2

    over : word_bit j (bit_or lanes.over c3) ≡ (word_bit j lanes.over || (word_bit j lanes.eights && (word_bit j lanes.fours && (word_bit j lanes.twos && (word_bit j lanes.ones && word_bit j word)))))
    over = word_bit_or j lanes.over c3 ∙ ap (λ (b : Bool). word_bit j lanes.over || b) at3

    now : Lanes
    now = record { ones = bit_xor lanes.ones word; twos = bit_xor lanes.twos c0; fours = bit_xor lanes.fours c1; eights = bit_xor lanes.eights c2; over = bit_or lanes.over c3 }

    value : lane_value now j ≡ digits (differ (word_bit j lanes.ones) (word_bit j word)) (differ (word_bit j lanes.twos) (word_bit j lanes.ones && word_bit j word)) (differ (word_bit j lanes.fours) (word_bit j lanes.twos && (word_bit j lanes.ones && word_bit j word))) (differ (word_bit j lanes.eights) (word_bit j lanes.fours && (word_bit j lanes.twos && (word_bit j lanes.ones && word_bit j word))))
    value =
        let one = ap one_if (word_bit_xor j lanes.ones word) in
        let two = ap one_if (word_bit_xor j lanes.twos c0 ∙ ap (differ (word_bit j lanes.twos)) at0) in
        let four = ap one_if (word_bit_xor j lanes.fours c1 ∙ ap (differ (word_bit j lanes.fours)) at1) in
        let eight = ap one_if (word_bit_xor j lanes.eights c2 ∙ ap (differ (word_bit j lanes.eights)) at2) in
        omega (arith, one, two, four, eight)

    both : ((word_bit j lanes.over || (word_bit j lanes.eights && (word_bit j lanes.fours && (word_bit j lanes.twos && (word_bit j lanes.ones && word_bit j word))))) ≡ true)
        ⊎ (k + one_if (word_bit j word) ≤ digits (differ (word_bit j lanes.ones) (word_bit j word)) (differ (word_bit j lanes.twos) (word_bit j lanes.ones && word_bit j word)) (differ (word_bit j lanes.fours) (word_bit j lanes.twos && (word_bit j lanes.ones && word_bit j word))) (differ (word_bit j lanes.eights) (word_bit j lanes.fours && (word_bit j lanes.twos && (word_bit j lanes.ones && word_bit j word)))))
        → Reaches now j (k + one_if (word_bit j word))
    both (inl e) = inl (over ∙ e)
    both (inr l) = inr (subst (λ (v : ℕ). k + one_if (word_bit j word) ≤ v) (sym value) l)
