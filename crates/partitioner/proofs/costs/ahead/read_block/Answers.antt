use Rattle.std.proofs.Common.{◌<◌, ◌∙◌, ℕ, List, length, sym, subst, arith}
use Rattle.std.specs.List.{All}
use Rattle.node_reads.specs.Sources.{reads_other}
use Rattle.node_reads.proofs.SourceLaws.{related_below}
use Rattle.partitioner.proofs.costs.ahead.read_block.Goals as goal

pub row_ahead-mixed-requires : goal.row_ahead-mixed-requires
row_ahead-mixed-requires c =
    let net = c.args.n.now.net in
    let within : c.loop-y.y < length net.nodes = omega (arith, c.loop-y-test.true, c.min-end.ensures, c.nodes_of.ensures.count) in
    subst (λ (bound : ℕ). All (λ y. y < bound) c.row.result.now) (sym c.requires.long)
    (subst (λ (xs : List ℕ). All (λ y. y < length net.nodes) xs) (sym (c.row.ensures ∙ c.requires.readers.row c.loop-y.y within)) (related_below (reads_other net) (length net.nodes) c.loop-y.y))
