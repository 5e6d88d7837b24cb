-- Where nothing is wrong and nothing is late, the numbers are 0.
use Rattle.std.proofs.Common.{◌≡◌, ℕ, zero, suc, ◌+◌, ◌*◌, ◌<◌, ◌⊎◌, inl, inr, Bool, true, false, cond, List, [], ◌∷◌, ◌++◌, length, slice_index, Option, Some, None, refl, ◌∙◌, ap, arith}
use Rattle.std.specs.Prelude.{nat_lt, filter, count_by}
use Rattle.std.proofs.lemmas.List.Elements.{filter-append}
use Rattle.tmr_base.specs.declared.copies.CopyNo.{CopyNo}
use Rattle.tmr_base.specs.declared.copies.CopyNo.TheVariants.{First, Second, Third}
use Rattle.tmr_base.specs.declared.ids.Upset.{Upset}
use Rattle.flat_net.specs.Net.{Net}
use Rattle.net_meaning.specs.Meaning.{value_at}
use Rattle.certificate.specs.Cert.{PlainCert, part_of, copy_of}
use Rattle.schedule_replay.specs.declared.outcome.Difference.{Difference}
use Rattle.schedule_replay.specs.Outcome.{PlainOutcome, IsOutcome, bits_differ, output_at, outputs_in, outputs_until, is_wrong, is_quiet, copies_wrong, late_at, late_in, late_until}

-- two of three copies are right
abbrev pub TwoAre : Bool → Bool → Bool → Bool → Type 0
TwoAre o a b c = ((a ≡ o) × (b ≡ o)) ⊎ (((a ≡ o) × (c ≡ o)) ⊎ ((b ≡ o) × (c ≡ o)))

few_wrong : (o a b c : Bool) → TwoAre o a b c → nat_lt 1 (count_by (bits_differ o) (a ∷ b ∷ c ∷ [])) ≡ false
few_wrong o a b c (inl (e, f)) = rw (e, f) (last o c)
  where
    last : (o c : Bool) → nat_lt 1 (count_by (bits_differ o) (o ∷ o ∷ c ∷ [])) ≡ false
    last true true = refl
    last true false = refl
    last false true = refl
    last false false = refl
few_wrong o a b c (inr (inl (e, f))) = rw (e, f) (middle o b)
  where
    middle : (o b : Bool) → nat_lt 1 (count_by (bits_differ o) (o ∷ b ∷ o ∷ [])) ≡ false
    middle true true = refl
    middle true false = refl
    middle false true = refl
    middle false false = refl
few_wrong o a b c (inr (inr (e, f))) = rw (e, f) (first o a)
  where
    first : (o a : Bool) → nat_lt 1 (count_by (bits_differ o) (a ∷ o ∷ o ∷ [])) ≡ false
    first true true = refl
    first true false = refl
    first false true = refl
    first false false = refl

-- at an output of which two copies are right
pub output_right : (n h : Net) (tr ft : List (List Bool)) (t i : ℕ)
    → TwoAre (value_at tr t (slice_index n.outputs i)) (value_at ft t (slice_index h.outputs (3 * i))) (value_at ft t (slice_index h.outputs (3 * i + 1))) (value_at ft t (slice_index h.outputs (3 * i + 2)))
    → is_wrong (output_at n h tr ft t i) ≡ false
output_right n h tr ft t i two = few_wrong (value_at tr t (slice_index n.outputs i)) (value_at ft t (slice_index h.outputs (3 * i))) (value_at ft t (slice_index h.outputs (3 * i + 1))) (value_at ft t (slice_index h.outputs (3 * i + 2))) two

same_bits : (b : Bool) → bits_differ b b ≡ false
same_bits true = refl
same_bits false = refl

-- at a node whose copies are right where its partition is quiet
pub node_right : (k : PlainCert) (s : List Upset) (tr ft : List (List Bool)) (t x : ℕ) (o : Option ℕ)
    → ((p : ℕ) → o ≡ Some p → is_quiet k s p t ≡ true → (c : CopyNo) → value_at ft t (copy_of k x c) ≡ value_at tr t x) → late_at k s tr ft t x o ≡ 0
node_right k s tr ft t x None right = refl
node_right k s tr ft t x (Some p) right = go (is_quiet k s p t) refl
  where
    none : ((c : CopyNo) → value_at ft t (copy_of k x c) ≡ value_at tr t x) → copies_wrong k tr ft t x ≡ 0
    none all = rw (all First, all Second, all Third, same_bits (value_at tr t x)) refl

    go : (q : Bool) → is_quiet k s p t ≡ q → cond q (copies_wrong k tr ft t x) 0 ≡ 0
    go true e = none (right p refl e)
    go false e = refl

module _ (n h : Net) (tr ft : List (List Bool)) where
  none_wrong_in : (t count : ℕ) → ((i : ℕ) → i < count → is_wrong (output_at n h tr ft t i) ≡ false) → filter is_wrong (outputs_in n h tr ft t count) ≡ []
  none_wrong_in t zero right = refl
  none_wrong_in t (suc count) right =
      filter-append is_wrong (outputs_in n h tr ft t count) (output_at n h tr ft t count ∷ [])
      ∙ (ap (λ (ds : List Difference). ds ++ cond (is_wrong (output_at n h tr ft t count)) (output_at n h tr ft t count ∷ []) []) (none_wrong_in t count (λ i l. right i (omega arith)))
      ∙ ap (λ (b : Bool). cond b (output_at n h tr ft t count ∷ []) []) (right count (omega arith)))

  pub none_wrong : (cycles : ℕ) → ((t i : ℕ) → t < cycles → i < length n.outputs → is_wrong (output_at n h tr ft t i) ≡ false) → filter is_wrong (outputs_until n h tr ft cycles) ≡ []
  none_wrong zero right = refl
  none_wrong (suc cycles) right =
      filter-append is_wrong (outputs_until n h tr ft cycles) (outputs_in n h tr ft cycles (length n.outputs))
      ∙ (ap (λ (ds : List Difference). ds ++ filter is_wrong (outputs_in n h tr ft cycles (length n.outputs))) (none_wrong cycles (λ t i l m. right t i (omega arith) m))
      ∙ none_wrong_in cycles (length n.outputs) (λ i l. right cycles i (omega arith) l))

  module _ (k : PlainCert) (s : List Upset) where
    none_late_in : (t count : ℕ) → ((i : ℕ) → i < count → late_at k s tr ft t (length n.inputs + i) (part_of k (length n.inputs + i)) ≡ 0) → late_in n k s tr ft t count ≡ 0
    none_late_in t zero right = refl
    none_late_in t (suc count) right = let a = none_late_in t count (λ i l. right i (omega arith)) in let b = right count (omega arith) in omega (arith, a, b)

    pub none_late : (cycles : ℕ) → ((t i : ℕ) → t < cycles → i < length n.nodes → late_at k s tr ft t (length n.inputs + i) (part_of k (length n.inputs + i)) ≡ 0) → late_until n k s tr ft cycles ≡ 0
    none_late zero right = refl
    none_late (suc cycles) right = let a = none_late cycles (λ t i l m. right t i (omega arith) m) in let b = none_late_in cycles (length n.nodes) (λ i l. right cycles i (omega arith) l) in omega (arith, a, b)

    -- the outcome of a schedule that is masked
    pub masked_outcome : (cycles : ℕ) (o : PlainOutcome) → IsOutcome n h k s tr ft cycles o
        → ((t i : ℕ) → t < cycles → i < length n.outputs → is_wrong (output_at n h tr ft t i) ≡ false)
        → ((t i : ℕ) → t < cycles → i < length n.nodes → late_at k s tr ft t (length n.inputs + i) (part_of k (length n.inputs + i)) ≡ 0)
        → (o.wrong ≡ 0) × (o.late ≡ 0)
    masked_outcome cycles o is right quiet = (is.counts.wrong_are ∙ ap length (none_wrong cycles right), is.late ∙ none_late cycles quiet)
