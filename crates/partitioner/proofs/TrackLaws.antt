-- Counting the readers of all nodes.
use Rattle.std.proofs.Common.{ℕ, ◌<◌, ◌≤◌, Bool, List, [], length, sym, subst, arith, get_or}
use Rattle.std.specs.List.{range_with_len}
use Rattle.std.proofs.lemmas.List.FromFn.{length-range_with_len}
use Rattle.std.proofs.lemmas.List.Sums.{length-filter, count_by-le-length}
use Rattle.node_reads.specs.Noting.{Lists, related}

pub related_few : (r : ℕ → ℕ → Bool) (k x : ℕ) → length (related r k x) ≤ k
related_few r k x = omega (arith, length-filter (λ z. r z x) (range_with_len 0 k), count_by-le-length (λ z. r z x) (range_with_len 0 k), length-range_with_len 0 k)

pub row_few : (r : ℕ → ℕ → Bool) (k count : ℕ) (rows : List (List ℕ)) (x : ℕ) → Lists r k count rows → x < count → length (get_or rows x []) ≤ k
row_few r k count rows x lists l = subst (λ (row : List ℕ). length row ≤ k) (sym (lists.row x l)) (related_few r k x)
