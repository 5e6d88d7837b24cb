-- A copy and a label are read from their triples.
use Rattle.std.proofs.Common.{◌≡◌, ℕ, ◌+◌, ◌-◌, ◌<◌, ◌≤◌, List, length, map, get_or, subst, sym, ◌∙◌, ap, arith}
use Rattle.std.proofs.lemmas.List.{length-map}
use Rattle.tmr_base.specs.declared.copies.CopyNo.{CopyNo}
use Rattle.tmr_base.specs.Copies.{Three, of_copy}
use Rattle.flat_net.specs.Net.{slot}
use Rattle.flat_net.proofs.Slots.{slot_map_read, slot_within}
use Rattle.certificate.specs.Cert.{PlainCert, copy_of, label_of, three_or_input, three_or_zero, IsCert}

pub copy_read : {A : Type 0} (f : A → Three) (k : PlainCert) (xs : List A) (x : ℕ) (d : A) (c : CopyNo) → k.copies ≡ map f xs → k.original_inputs ≤ x → x < k.original_inputs + length k.copies → of_copy (f (get_or xs (x - k.original_inputs) d)) c ≡ copy_of k x c
copy_read f k xs x d c e low high =
    let long : length k.copies ≡ length xs = ap length e ∙ length-map xs f in
    sym (ap (λ o. three_or_input o x c) (ap (λ ys. slot k.original_inputs ys x) e ∙ slot_map_read f k.original_inputs xs x d low (omega arith)))

pub label_read : {A : Type 0} (f : A → Three) (k : PlainCert) (xs : List A) (x : ℕ) (d : A) (c : CopyNo) → k.labels ≡ map f xs → k.original_inputs ≤ x → x < k.original_inputs + length k.labels → of_copy (f (get_or xs (x - k.original_inputs) d)) c ≡ label_of k x c
label_read f k xs x d c e low high =
    let long : length k.labels ≡ length xs = ap length e ∙ length-map xs f in
    sym (ap (λ o. three_or_zero o c) (ap (λ ys. slot k.original_inputs ys x) e ∙ slot_map_read f k.original_inputs xs x d low (omega arith)))

copy_lies_within : (k : PlainCert) (x : ℕ) (c : CopyNo) → IsCert k → k.original_inputs ≤ x → x < k.original_inputs + length k.part → (k.hardened_inputs ≤ copy_of k x c) × (copy_of k x c < k.hardened_inputs + length k.roles)
copy_lies_within k x c cert low high = slot_within _ _ _ _ (cert.copies_have_roles x c low high)

-- a copy is a hardened node
pub copy_low : (k : PlainCert) (x y : ℕ) (c : CopyNo) → IsCert k → k.original_inputs ≤ x → x < k.original_inputs + length k.part → y ≡ copy_of k x c → k.hardened_inputs ≤ y
copy_low k x y c cert low high e = subst (λ (h : ℕ). k.hardened_inputs ≤ h) (sym e) (copy_lies_within k x c cert low high).0

pub copy_high : (k : PlainCert) (x y : ℕ) (c : CopyNo) → IsCert k → k.original_inputs ≤ x → x < k.original_inputs + length k.part → y ≡ copy_of k x c → y < k.hardened_inputs + length k.roles
copy_high k x y c cert low high e = subst (λ (h : ℕ). h < k.hardened_inputs + length k.roles) (sym e) (copy_lies_within k x c cert low high).1

pub ruleset copy_within = (copy_low, copy_high)
