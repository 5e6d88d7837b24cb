-- What the boxes tell.
use Rattle.std.proofs.Common.{◌≡◌, ℕ, ◌+◌, List, length, slice_index, sym, ◌∙◌, ap}
use Rattle.std.specs.Prelude.{◌==◌, ◌&&◌, max}
use Rattle.flat_net.specs.Net.{Net}
use Rattle.certificate.specs.Cert.{PlainCert}
use Rattle.partitioner.specs.Below.{sum_below, count_below}
use Rattle.partitioner.proofs.BelowLaws.{sum_more}
use Rattle.partition_graph.specs.Places.{nodes_in, max_below}
use Rattle.partition_graph.specs.Picture.{registers_in, is_register_at, most_nodes, if_not_drawn, rest_sum, rest_max}
use Rattle.partition_graph.specs.Private.Counting.{AreNodeCounts}
use Rattle.partition_graph.proofs.CountLaws.{max_more, max_same}

pub rest_more : (k : PlainCert) (f : ℕ → ℕ) (p old new : ℕ) → old ≡ sum_below p (if_not_drawn k f) → new ≡ old + if_not_drawn k f p → new ≡ sum_below (p + 1) (if_not_drawn k f)
rest_more k f p old new before is = is ∙ (ap (λ (m : ℕ). m + if_not_drawn k f p) before ∙ sym (sum_more p (if_not_drawn k f)))

pub deepest_more : (k : PlainCert) (f : ℕ → ℕ) (p old new : ℕ) → old ≡ max_below p (if_not_drawn k f) → new ≡ max old (if_not_drawn k f p) → new ≡ max_below (p + 1) (if_not_drawn k f)
deepest_more k f p old new before is = is ∙ (ap (λ (m : ℕ). max m (if_not_drawn k f p)) before ∙ sym (max_more p (if_not_drawn k f)))

pub rest_is : (k : PlainCert) (f : ℕ → ℕ) (p total : ℕ) → p ≡ length k.depth → total ≡ sum_below p (if_not_drawn k f) → total ≡ rest_sum k f
unfolding rest_sum
rest_is k f p total e is = is ∙ ap (λ (m : ℕ). sum_below m (if_not_drawn k f)) e

pub deepest_is : (k : PlainCert) (f : ℕ → ℕ) (p total : ℕ) → p ≡ length k.depth → total ≡ max_below p (if_not_drawn k f) → total ≡ rest_max k f
unfolding rest_max
deepest_is k f p total e is = is ∙ ap (λ (m : ℕ). max_below m (if_not_drawn k f)) e

pub registers_are : (n : Net) (k : PlainCert) (p count : ℕ) → count ≡ count_below (length k.part) (λ x. slice_index k.part x == p && is_register_at n x) → count ≡ registers_in n k p
unfolding registers_in
registers_are n k p count is = is

pub most_is : (k : PlainCert) (nodes : List ℕ) (most : ℕ) → AreNodeCounts k nodes → most ≡ max_below (length nodes) (slice_index nodes) → most ≡ most_nodes k
unfolding most_nodes
most_is k nodes most are is =
    is ∙ (ap (λ (m : ℕ). max_below m (slice_index nodes)) are.long ∙ max_same (length k.depth) (slice_index nodes) (nodes_in k) are.each)
