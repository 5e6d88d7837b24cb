-- The first place of a byte, as a search for it answers it.
use Rattle.std.proofs.Common.{◌≡◌, ℕ, ◌<◌, Bool, true, false, cond, List, length, take, refl, sym, ap, subst, arith, Option, Some, None, ltb}
use Rattle.std.specs.List.{position, position_or_len, before_first}
use Rattle.std.proofs.lemmas.List.{take_all}
use Rattle.std.proofs.lemmas.List.Sums.{position_or_len_is}
use Rattle.memchr.specs.Find.{IsFirstByte}

not_true : (b : Bool) → ¬ (b ≡ true) → b ≡ false
not_true true h = absurd (h refl)
not_true false h = refl

at_end : (test : ℕ → Bool) (hay : List ℕ) → position_or_len test hay ≡ length hay → position test hay ≡ None
at_end test hay e = subst (λ n. cond (ltb n (length hay)) (Some n) None ≡ None) (sym e) (ap (λ b. cond b (Some (length hay)) None) below)
  where
    below : ltb (length hay) (length hay) ≡ false
    below = grind arith

within : (test : ℕ → Bool) (hay : List ℕ) (k : ℕ) → position_or_len test hay ≡ k → k < length hay → position test hay ≡ Some k
within test hay k e h = subst (λ n. cond (ltb n (length hay)) (Some n) None ≡ Some k) (sym e) (ap (λ b. cond b (Some k) None) below)
  where
    below : ltb k (length hay) ≡ true
    below = grind (arith, h)

pub no_place : (test : ℕ → Bool) (hay : List ℕ) → IsFirstByte test hay None → position_or_len test hay ≡ length hay
no_place test hay h =
    position_or_len_is test hay (length hay) 0 (omega arith) (λ k below. not_true _ (h k (omega arith) below)) (λ below. absurd (omega (arith, below)))

pub place : (test : ℕ → Bool) (hay : List ℕ) (k : ℕ) → IsFirstByte test hay (Some k) → position_or_len test hay ≡ k
place test hay k h = position_or_len_is test hay k 0 (omega (arith, h.0.high)) (λ i below. not_true _ (h.0.before i (omega arith) below)) (λ _. h.1)

pub first_byte : (test : ℕ → Bool) (hay : List ℕ) (r : Option ℕ) → IsFirstByte test hay r → r ≡ position test hay
first_byte test hay None h = sym (at_end test hay (no_place test hay h))
first_byte test hay (Some k) h = sym (within test hay k (place test hay k h) h.0.high)

-- what stands before the byte, and all where there is none
pub before_byte : (test : ℕ → Bool) (hay : List ℕ) (k : ℕ) → IsFirstByte test hay (Some k) → take k hay ≡ before_first test hay
before_byte test hay k h = ap (λ n. take n hay) (sym (place test hay k h))

pub before_none : (test : ℕ → Bool) (hay : List ℕ) → IsFirstByte test hay None → hay ≡ before_first test hay
before_none test hay h = sym (take_all (position_or_len test hay) hay (omega (arith, no_place test hay h)))

pub ruleset byte_stands = (before_byte, before_none)

pub ruleset first_places = (place, no_place)
