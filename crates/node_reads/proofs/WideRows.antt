-- The rows of wide nodes.
use Rattle.std.proofs.Common.{◌≡◌, ℕ, ◌+◌, ◌<◌, true, List, [], ◌∷◌, ◌++◌, length, below_more, sym, ◌∙◌, ap, arith, get_or}
use Rattle.std.specs.List.{range_with_len, All}
use Rattle.std.proofs.lemmas.List.{length-append, get_or_append_left}
use Rattle.std.proofs.Math.Seq.{get_or-append_seam}
use Rattle.std.proofs.lemmas.List.Elements.{filter_passes, All-filter}
use Rattle.flat_net.specs.Net.{Net}
use Rattle.node_reads.specs.Sources.{reads_other, other_sources, is_wide, wide_sources}
use Rattle.node_reads.proofs.Numbers.{numbers_below}

pub wide_below : (n : Net) (i : ℕ) → All (λ x. x < length n.nodes) (wide_sources n i)
wide_below n i = All-filter (is_wide n) (λ x. x < length n.nodes) (other_sources n i) (All-filter (λ x. reads_other n i x) (λ x. x < length n.nodes) (range_with_len 0 (length n.nodes)) (numbers_below (length n.nodes)))

pub wide_read : (n : Net) (i : ℕ) → All (λ x. reads_other n i x ≡ true) (wide_sources n i)
wide_read n i = All-filter (is_wide n) (λ x. reads_other n i x ≡ true) (other_sources n i) (filter_passes (λ x. reads_other n i x) (range_with_len 0 (length n.nodes)))

pub wide_pass : (n : Net) (i : ℕ) → All (λ x. is_wide n x ≡ true) (wide_sources n i)
wide_pass n i = filter_passes (is_wide n) (other_sources n i)

-- one more row of wide nodes
pub wide_row_added : (n : Net) (rows after : List (List ℕ)) (row : List ℕ) (i : ℕ) → length rows ≡ i → ((k : ℕ) → k < i → get_or rows k [] ≡ wide_sources n k) → after ≡ rows ++ row ∷ [] → row ≡ wide_sources n i → (length after ≡ i + 1) × ((k : ℕ) → k < i + 1 → get_or after k [] ≡ wide_sources n k)
wide_row_added n rows after row i long before is new =
    (ap length is ∙ (length-append rows (row ∷ []) ∙ ap (λ (k : ℕ). k + 1) long), below_more _ _ (λ k h. kept k h) added)
  where
    kept : (k : ℕ) → k < i → get_or after k [] ≡ wide_sources n k
    kept k h = ap (λ (r : List (List ℕ)). get_or r k []) is ∙ (get_or_append_left rows (row ∷ []) [] k (omega (arith, h, long)) ∙ before k h)

    added : get_or after i [] ≡ wide_sources n i
    added = ap (λ (r : List (List ℕ)). get_or r i []) is ∙ (ap (λ (k : ℕ). get_or (rows ++ row ∷ []) k []) (sym long) ∙ (get_or-append_seam rows row [] [] ∙ new))
