-- Words of which a mask forces some runs.
use Rattle.std.proofs.Common.{◌≡◌, ℕ, ◌-◌, ◌<◌, ◌^◌, ◌≢◌, ◌⊎◌, inl, inr, Bool, true, false, cond, not, ◌&&◌, ◌||◌, List, length, slice_index, slice_set, Option, Some, None, subst, refl, sym, ap, ◌∙◌}
use Rattle.std.specs.Prelude.{bit_and, bit_or, nat_eq}
use Rattle.std.proofs.lemmas.Bool.{eq-eqb, ne_eqb}
use Rattle.std.proofs.lemmas.List.{get_or-set_same, get_or-set_other}
use Rattle.table_cover.specs.Words.{word_bit}
use Rattle.table_cover.proofs.WordLaws.{word_bit_and, word_bit_or, word_bit_not}
use Rattle.std.specs.Option.{unwrap_or}
use Rattle.net_simulator.specs.Settled.{mark}
use Rattle.net_meaning.specs.Meaning.{bit}
use Rattle.net_simulator.proofs.Settling.{equal_or_not}

chosen : (own mask value : Bool) → ((own && not mask) || (value && mask)) ≡ unwrap_or (mark mask value) own
chosen true true true = refl
chosen true true false = refl
chosen true false true = refl
chosen true false false = refl
chosen false true true = refl
chosen false true false = refl
chosen false false true = refl
chosen false false false = refl

-- bit j of the word that is put together
pub merged_bit : (j own mask value : ℕ) → j < 64 → mask < 2 ^ 64 → word_bit j (bit_or (bit_and own (18446744073709551615 - mask)) (bit_and value mask)) ≡ unwrap_or (mark (word_bit j mask) (word_bit j value)) (word_bit j own)
merged_bit j own mask value l h =
    let e : word_bit j (bit_or (bit_and own (18446744073709551615 - mask)) (bit_and value mask)) ≡ ((word_bit j own && not (word_bit j mask)) || (word_bit j value && word_bit j mask)) =
    rw (word_bit_or, word_bit_and, word_bit_not j mask l h, word_bit_and) refl in
    e ∙ chosen (word_bit j own) (word_bit j mask) (word_bit j value)

pub ruleset merged_bits = (merged_bit)

-- what run j forces on net x
abbrev pub mark_of : List Bool → List ℕ → List ℕ → ℕ → ℕ → Option Bool
mark_of fs masks values j x = cond (bit fs x) (mark (word_bit j (slice_index masks x)) (word_bit j (slice_index values x))) None

forced_more : (a m b v : Bool) → mark (a || m) (unwrap_or (mark m b) v) ≡ cond m (Some b) (mark a v)
forced_more true true b v = refl
forced_more true false b v = refl
forced_more false true b v = refl
forced_more false false b v = refl

-- of a net that is forced already some runs more are forced
pub more_runs : (fs : List Bool) (masks values : List ℕ) (x y j mask value m v : ℕ) → bit fs x ≡ true → x < length masks → x < length values
    → word_bit j m ≡ (word_bit j (slice_index masks x) || word_bit j mask)
    → word_bit j v ≡ unwrap_or (mark (word_bit j mask) (word_bit j value)) (word_bit j (slice_index values x))
    → mark_of fs (slice_set masks x m) (slice_set values x v) j y ≡ cond (nat_eq x y && word_bit j mask) (Some (word_bit j value)) (mark_of fs masks values j y)
more_runs fs masks values x y j mask value m v on in_masks in_values e f = go (equal_or_not y x)
  where
    go : (y ≡ x) ⊎ (y ≢ x) → mark_of fs (slice_set masks x m) (slice_set values x v) j y ≡ cond (nat_eq x y && word_bit j mask) (Some (word_bit j value)) (mark_of fs masks values j y)
    go (inl same) =
        subst (λ (z : ℕ). mark_of fs (slice_set masks x m) (slice_set values x v) j z ≡ cond (nat_eq x z && word_bit j mask) (Some (word_bit j value)) (mark_of fs masks values j z)) (sym same)
        (ap (λ (k : ℕ). cond (bit fs x) (mark (word_bit j k) (word_bit j (slice_index (slice_set values x v) x))) None) (get_or-set_same masks x m 0 in_masks)
        ∙ (ap (λ (k : ℕ). cond (bit fs x) (mark (word_bit j m) (word_bit j k)) None) (get_or-set_same values x v 0 in_values)
        ∙ (ap (λ (o : Bool). cond o (mark (word_bit j m) (word_bit j v)) None) on
        ∙ (ap (λ (a : Bool). mark a (word_bit j v)) e
        ∙ (ap (λ (b : Bool). mark (word_bit j (slice_index masks x) || word_bit j mask) b) f
        ∙ (forced_more (word_bit j (slice_index masks x)) (word_bit j mask) (word_bit j value) (word_bit j (slice_index values x))
        ∙ (ap (λ (o : Bool). cond (word_bit j mask) (Some (word_bit j value)) (cond o (mark (word_bit j (slice_index masks x)) (word_bit j (slice_index values x))) None)) (sym on)
        ∙ ap (λ (t : Bool). cond (t && word_bit j mask) (Some (word_bit j value)) (mark_of fs masks values j x)) (sym (eq-eqb x x refl)))))))))
    go (inr apart) =
        ap (λ (k : ℕ). cond (bit fs y) (mark (word_bit j k) (word_bit j (slice_index (slice_set values x v) y))) None) (get_or-set_other masks x y m 0 apart)
        ∙ (ap (λ (k : ℕ). cond (bit fs y) (mark (word_bit j (slice_index masks y)) (word_bit j k)) None) (get_or-set_other values x y v 0 apart)
        ∙ ap (λ (t : Bool). cond (t && word_bit j mask) (Some (word_bit j value)) (mark_of fs masks values j y)) (sym (ne_eqb x y (λ same. apart (sym same)))))
