-- Lines that are put one after the other.
use Rattle.std.proofs.Common.{◌≡◌, ℕ, suc, ◌+◌, ◌-◌, ◌<◌, Bool, true, cond, List, [], ◌∷◌, ◌++◌, length, sym, ap, ◌∙◌, append_assoc, append-nil, arith}
use Rattle.std.specs.Prelude.{codes, nat_lt}
use Rattle.std.specs.List.{flat_map, range_with_len}
use Rattle.std.proofs.lemmas.List.Concat.{flat_map-append}
use Rattle.std.specs.Fmt.{decimal}
use Rattle.tmr_base.specs.declared.copies.CopyNo.TheVariants.{First, Second, Third}
use Rattle.certificate.specs.Cert.{PlainCert, depth_of}
use Rattle.certificate.specs.Text.{line_text}
use Rattle.exposure.specs.Counts.{copy_count}
use Rattle.exposure.specs.Text.{count_words, has_nodes, part_line, part_lines}
use Rattle.exposure.specs.Private.Left.{lines_left}

-- the line of a partition that has nodes
pub counts_put : (k : PlainCert) (p a b c d : ℕ) (old new : List ℕ) (shown : Bool) → a ≡ copy_count k p First → b ≡ copy_count k p Second → c ≡ copy_count k p Third → d ≡ depth_of k p → shown ≡ nat_lt 0 (a + b + c) → shown ≡ true
    → new ≡ old ++ line_text (codes "part" ∷ decimal p ∷ count_words a b c d) → new ≡ old ++ flat_map line_text (part_lines k p)
counts_put k p a b c d old new shown ea eb ec ed told is_shown put = put ∙ (ap (λ (t : List ℕ). old ++ t) (words ∙ sym (append-nil (line_text (part_line k p)))) ∙ ap (λ (t : List ℕ). old ++ t) (sym lines))
  where
    words : line_text (codes "part" ∷ decimal p ∷ count_words a b c d) ≡ line_text (part_line k p)
    words =
        ap (λ (m : ℕ). line_text (codes "part" ∷ decimal p ∷ count_words m b c d)) ea
        ∙ (ap (λ (m : ℕ). line_text (codes "part" ∷ decimal p ∷ count_words (copy_count k p First) m c d)) eb
        ∙ (ap (λ (m : ℕ). line_text (codes "part" ∷ decimal p ∷ count_words (copy_count k p First) (copy_count k p Second) m d)) ec
        ∙ ap (λ (m : ℕ). line_text (codes "part" ∷ decimal p ∷ count_words (copy_count k p First) (copy_count k p Second) (copy_count k p Third) m)) ed))

    sum : a + b + c ≡ copy_count k p First + copy_count k p Second + copy_count k p Third
    sum = omega (arith, ea, eb, ec)

    has : has_nodes k p ≡ true
    has = ap (λ (m : ℕ). nat_lt 0 m) (sym sum) ∙ (sym told ∙ is_shown)

    lines : flat_map line_text (part_lines k p) ≡ line_text (part_line k p) ++ []
    lines = ap (λ (b : Bool). flat_map line_text (cond b (part_line k p ∷ []) [])) has

range_more : (p m k : ℕ) → m ≡ k + 1 → range_with_len p m ≡ p ∷ range_with_len (p + 1) k
range_more p m k e = let is : m ≡ suc k = omega (arith, e) in ap (range_with_len p) is

pub lines_more : (k : PlainCert) (p : ℕ) → p < length k.depth → lines_left k p ≡ flat_map line_text (part_lines k p) ++ lines_left k (p + 1)
lines_more k p h =
    let rest = range_with_len (p + 1) (length k.depth - (p + 1)) in
    ap (λ (ps : List ℕ). flat_map line_text (flat_map (part_lines k) ps)) (range_more p (length k.depth - p) (length k.depth - (p + 1)) (omega (arith, h)))
    ∙ flat_map-append line_text (part_lines k p) (flat_map (part_lines k) rest)

pub part_put : (k : PlainCert) (p : ℕ) (old new total : List ℕ) → p < length k.depth → new ≡ old ++ flat_map line_text (part_lines k p) → old ++ lines_left k p ≡ total → new ++ lines_left k (p + 1) ≡ total
part_put k p old new total h put before =
    ap (λ (xs : List ℕ). xs ++ lines_left k (p + 1)) put
    ∙ (append_assoc old (flat_map line_text (part_lines k p)) (lines_left k (p + 1))
    ∙ (ap (λ (xs : List ℕ). old ++ xs) (sym (lines_more k p h)) ∙ before))
