-- The rows of the nodes that a node reads, made from the rows of the nodes that read it.
use Rattle.std.proofs.Common.{◌≡◌, ℕ, suc, ◌+◌, ◌<◌, ◌≤◌, Bool, eqb, ◌||◌, List, [], length, refl, sym, ◌∙◌, ap, subst, arith, get_or, take}
use Rattle.std.specs.List.{range_with_len, list_any, All}
use Rattle.std.proofs.lemmas.List.{take_all}
use Rattle.std.proofs.lemmas.List.Folds.{list_any_more}
use Rattle.std.proofs.lemmas.List.Elements.{All-filter}
use Rattle.flat_net.specs.Net.{Net}
use Rattle.node_reads.specs.Sources.{reads_other, is_source}
use Rattle.node_reads.specs.Private.Marking.{marked_by_row, ListsMarked}
use Rattle.node_reads.specs.Noting.{Lists, noted, related}
use Rattle.node_reads.proofs.NotingLaws.{noted_marks, marks_none, marks_all}
use Rattle.node_reads.proofs.Numbers.{numbers_below, any_passing}

-- the numbers of a row are in range
pub related_below : (r : ℕ → ℕ → Bool) (k x : ℕ) → All (λ z. z < k) (related r k x)
related_below r k x = All-filter (λ z. r z x) (λ z. z < k) (range_with_len 0 k) (numbers_below k)

pub rows_below : (r : ℕ → ℕ → Bool) (k count : ℕ) (rows : List (List ℕ)) (x j : ℕ) → Lists r k count rows → x < count → j < length (get_or rows x []) → get_or (get_or rows x []) j 0 < k
rows_below r k count rows x j lists within l =
    subst (λ (xs : List ℕ). All (λ z. z < k) xs) (sym (lists.row x within)) (related_below r k x) j 0 l

abbrev pub MarkedSources : Net → ℕ → List ℕ → ℕ → List (List ℕ) → Type 0
MarkedSources n x row j rows = ListsMarked (is_source n) x (length n.nodes) (marked_by_row row j) rows

pub source_noted : (n : Net) (x : ℕ) (row : List ℕ) (j y : ℕ) (rows : List (List ℕ)) → MarkedSources n x row j rows → j < length row → get_or row j 0 ≡ y → y < length n.nodes → MarkedSources n x row (j + 1) (noted rows y x)
source_noted n x row j y rows lists l at within =
    noted_marks (is_source n) x (length n.nodes) (marked_by_row row j) (marked_by_row row (j + 1)) rows y lists within
    (λ z h. list_any_more (λ m. eqb m z) row j 0 l ∙ ap (λ (k : ℕ). list_any (λ m. eqb m z) (take j row) || eqb k z) at)

pub sources_start : (n : Net) (x : ℕ) (row : List ℕ) (rows : List (List ℕ)) → Lists (is_source n) x (length n.nodes) rows → MarkedSources n x row 0 rows
sources_start n x row rows lists = marks_none (is_source n) x (length n.nodes) (marked_by_row row 0) rows lists (λ z. refl)

pub sources_end : (n : Net) (x : ℕ) (row : List ℕ) (j : ℕ) (rows : List (List ℕ)) → MarkedSources n x row j rows → length row ≤ j → row ≡ related (reads_other n) (length n.nodes) x → Lists (is_source n) (x + 1) (length n.nodes) rows
sources_end n x row j rows lists past is =
    let e : suc x ≡ x + 1 = omega arith in
    subst (λ (k : ℕ). Lists (is_source n) k (length n.nodes) rows) e
    (marks_all (is_source n) x (length n.nodes) (marked_by_row row j) rows lists
    (λ z h. ap (λ (r : List ℕ). list_any (λ m. eqb m z) r) (take_all j row past ∙ is) ∙ any_passing (λ y. reads_other n y x) (length n.nodes) z h))
