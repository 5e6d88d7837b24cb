-- The loss, counted over a row.
use Rattle.std.proofs.Common.{◌≡◌, ℕ, ◌+◌, ◌<◌, ◌≤◌, true, not, List, length, sym, ◌∙◌, ap, arith, get_or, take, IsPermutation}
use Rattle.std.specs.List.{range_with_len, count_by, All}
use Rattle.std.proofs.lemmas.List.{take_all}
use Rattle.std.proofs.lemmas.List.Sums.{sum_by_more, sum_by-take-le}
use Rattle.std.proofs.lemmas.List.Sorted.{All-permutation, sum_by-IsPermutation}
use Rattle.std.proofs.lemmas.List.Elements.{filter_passes, All-filter}
use Rattle.flat_net.specs.Net.{Net}
use Rattle.partitioner.specs.Below.{one_if}
use Rattle.node_reads.specs.Sources.{reads_other, other_sources}
use Rattle.partitioner.specs.Private.Loss.{is_fresh, is_wanted, loss}
use Rattle.node_reads.proofs.Numbers.{numbers_below}

pub sources_below : (n : Net) (i : ℕ) (row : List ℕ) → IsPermutation (other_sources n i) row → All (λ x. x < length n.nodes) row
sources_below n i row perm = All-permutation (λ x. x < length n.nodes) (other_sources n i) row perm (All-filter (λ x. reads_other n i x) (λ x. x < length n.nodes) (range_with_len 0 (length n.nodes)) (numbers_below (length n.nodes)))

pub sources_read : (n : Net) (i : ℕ) (row : List ℕ) → IsPermutation (other_sources n i) row → All (λ x. reads_other n i x ≡ true) row
sources_read n i row perm = All-permutation (λ x. reads_other n i x ≡ true) (other_sources n i) row perm (filter_passes (λ x. reads_other n i x) (range_with_len 0 (length n.nodes)))

-- what the first j numbers of a row lose
abbrev pub loss_so_far : Net → List ℕ → ℕ → ℕ → List ℕ → ℕ → ℕ
loss_so_far n of i q row j = one_if (not (is_wanted n of i q)) + count_by (λ x. is_fresh n of i x q) (take j row)

pub loss_more : (n : Net) (of : List ℕ) (i q : ℕ) (row : List ℕ) (j : ℕ) → j < length row → loss_so_far n of i q row (j + 1) ≡ loss_so_far n of i q row j + one_if (is_fresh n of i (get_or row j 0) q)
loss_more n of i q row j l =
    let more = sum_by_more (λ x. one_if (is_fresh n of i x q)) row j 0 l in
    omega (arith, more)

pub loss_all : (n : Net) (of : List ℕ) (i q : ℕ) (row : List ℕ) (j : ℕ) → IsPermutation (other_sources n i) row → length row ≤ j → loss_so_far n of i q row j ≡ loss n of i q
unfolding loss
loss_all n of i q row j perm l =
    ap (λ (xs : List ℕ). one_if (not (is_wanted n of i q)) + count_by (λ x. is_fresh n of i x q) xs) (take_all j row l)
    ∙ ap (λ (k : ℕ). one_if (not (is_wanted n of i q)) + k) (sum_by-IsPermutation (λ x. one_if (is_fresh n of i x q)) (other_sources n i) row perm)

pub loss_at_least : (n : Net) (of : List ℕ) (i q : ℕ) (row : List ℕ) (j : ℕ) → IsPermutation (other_sources n i) row → loss_so_far n of i q row j ≤ loss n of i q
loss_at_least n of i q row j perm =
    let part = sum_by-take-le (λ x. one_if (is_fresh n of i x q)) row j in
    let all : one_if (not (is_wanted n of i q)) + count_by (λ x. is_fresh n of i x q) row ≡ loss n of i q =
    ap (λ (xs : List ℕ). one_if (not (is_wanted n of i q)) + count_by (λ x. is_fresh n of i x q) xs) (sym (take_all (length row) row (omega arith))) ∙ loss_all n of i q row (length row) perm (omega arith) in
    omega (arith, part, all)
