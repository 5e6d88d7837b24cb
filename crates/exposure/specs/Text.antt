-- The text of an exposure.
use Rattle.std.specs.Prelude.{ℕ, ◌+◌, ◌==◌, Bool, nat_lt, List, [], ◌∷◌, ◌++◌, length, codes, if◌then◌else◌}
use Rattle.std.specs.List.{flat_map, range_with_len}
use Rattle.std.specs.Fmt.{decimal}
use Rattle.tmr_base.specs.declared.copies.CopyNo.TheVariants.{First, Second, Third}
use Rattle.certificate.specs.Cert.{PlainCert, depth_of}
use Rattle.certificate.specs.Text.{line_text}
use Rattle.exposure.specs.Counts.{copy_count, near_of, near_total}

-- `copies N0 N1 N2 depth D near X`
abbrev pub count_words : ℕ → ℕ → ℕ → ℕ → List (List ℕ)
count_words first second third d =
    codes "copies" ∷ decimal first ∷ decimal second ∷ decimal third ∷
    codes "depth" ∷ decimal d ∷ codes "near" ∷ decimal (near_of first second third d) ∷ []

-- in version 2 `inputs copies I I I depth 0 near X`, since inputs may be upset there
abbrev pub input_lines : PlainCert → List (List (List ℕ))
input_lines k =
    if k.version == 1 then [] else (codes "inputs" ∷ count_words k.original_inputs k.original_inputs k.original_inputs 0) ∷ []

-- partition p has nodes
abbrev pub has_nodes : PlainCert → ℕ → Bool
has_nodes k p = nat_lt 0 (copy_count k p First + copy_count k p Second + copy_count k p Third)

-- `part P copies N0 N1 N2 depth D near X`
abbrev pub part_line : PlainCert → ℕ → List (List ℕ)
part_line k p =
    codes "part" ∷ decimal p ∷ count_words (copy_count k p First) (copy_count k p Second) (copy_count k p Third) (depth_of k p)

-- a line where the partition has nodes
abbrev pub part_lines : PlainCert → ℕ → List (List (List ℕ))
part_lines k p = if has_nodes k p then part_line k p ∷ [] else []

-- the text of the exposure: the partitions in their order, and what they come to
abbrev pub exposure_text : PlainCert → List ℕ
exposure_text k =
    flat_map line_text (input_lines k)
    ++ (flat_map line_text (flat_map (part_lines k) (range_with_len 0 (length k.depth)))
    ++ line_text (codes "near" ∷ decimal (near_total k) ∷ []))
