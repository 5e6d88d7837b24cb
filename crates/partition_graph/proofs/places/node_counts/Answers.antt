use Rattle.std.proofs.Common.{ℕ, List, length, slice_index, true, ap, sym, ◌∙◌, arith}
use Rattle.std.specs.Prelude.{◌==◌, replicate}
use Rattle.partitioner.specs.Below.{count_below}
use Rattle.partition_graph.proofs.CountLaws.{all_count}
use Rattle.partition_graph.proofs.PlaceLaws.{node_counts_are}
use Rattle.partition_graph.proofs.places.node_counts.Goals as goal

pub returns-clause-counts : goal.returns-clause-counts
returns-clause-counts c =
    node_counts_are c.args.c.now c.in_ok-nodes.nodes.items (c.in_ok-nodes.ensures.long ∙ c.parts-count.ensures.count)
    (λ p h. c.in_ok-nodes.ensures.counts p (omega (arith, h, c.parts-count.ensures.count))
    ∙ (all_count c.deref.result.now c.deref-2.result.now p (c.deref-2.ensures.value ∙ (c.in_ok-all.ensures ∙ ap (λ (m : ℕ). replicate m true) (c.len.ensures ∙ sym c.deref.ensures.len)))
    ∙ ap (λ (of : List ℕ). count_below (length of) (λ x. slice_index of x == p)) (c.deref.ensures.value ∙ c.in_ok-of.ensures)))
