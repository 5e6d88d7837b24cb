use Rattle.std.proofs.Common.{ℕ, List, sym, subst}
use Rattle.partitioner.specs.Private.Marks.{Covers}
use Rattle.partitioner.proofs.MarkLaws.{zeros_covered}
use Rattle.partitioner.proofs.counts.rows.Row.zeros.Goals as goal

pub invariant_of-result : goal.invariant_of-result
invariant_of-result c =
    subst (λ (words : List ℕ). Covers c.in_ok-blocks.blocks.items words) (sym (c.in_ok-words.ensures.items_if_clones_equal (λ y e. e))) (zeros_covered c.args.words c.in_ok-blocks.blocks.items c.in_ok-blocks.ensures)
