use Rattle.std.proofs.Common.{HashMap, BuildHasherDefault, FoldHasher, ◌<◌, ◌∙◌, ℕ, cond, eqb, List, length, slice_index, sym, ap, subst, arith}
use Rattle.std.specs.List.{All, count_by}
use Rattle.node_reads.specs.Sources.{reads_other}
use Rattle.partitioner.specs.Private.Counting.{count_at}
use Rattle.node_reads.proofs.SourceLaws.{related_below}
use Rattle.partitioner.proofs.TrackLaws.{row_few}
use Rattle.partitioner.proofs.WideLaws.{wide_counted, narrow_counted}
use Rattle.partitioner.proofs.counts.tracking.counts_of.Goals as goal
use Rattle.partitioner.proofs.counts.tracking.counts_of.Goals.{then-is_wide+in_ok-count_row, else-is_wide}

pub count_row-requires-clause-in_range : goal.count_row-requires-clause-in_range
count_row-requires-clause-in_range c =
    let net = c.args.n.now.net in
    let within : c.loop-x.x < length net.nodes = omega (arith, c.nodes_of-x-end.ensures.count, c.loop-x-test.true) in
    let row = c.row.ensures ∙ c.requires.readers.row c.loop-x.x within in
    let below : All (λ y. y < length net.nodes) c.row.result.now = subst (λ (xs : List ℕ). All (λ y. y < length net.nodes) xs) (sym row) (related_below (reads_other net) (length net.nodes) c.loop-x.x) in
    subst (λ (bound : ℕ). All (λ y. y < bound) c.row.result.now) (sym c.requires.long) below

pub count_row-requires-clause-few : goal.count_row-requires-clause-few
count_row-requires-clause-few c =
    let net = c.args.n.now.net in
    let within : c.loop-x.x < length net.nodes = omega (arith, c.nodes_of-x-end.ensures.count, c.loop-x-test.true) in
    omega (arith, ap length c.row.ensures, row_few (reads_other net) (length net.nodes) (length net.nodes) c.args.readers.now c.loop-x.x c.requires.readers within, c.nodes_of-x-end.ensures.few)

pub loop-x-preserved : goal.loop-x-preserved
loop-x-preserved c =
    let net = c.args.n.now.net in
    let within : c.loop-x.x < length net.nodes = omega (arith, c.nodes_of-x-end.ensures.count, c.loop-x-test.true) in
    elim c.if-is_wide.branch [
      | then-is_wide+in_ok-count_row w ↦ λ z q.
          ap (λ (counts : HashMap (ℕ × ℕ) ℕ (BuildHasherDefault FoldHasher)). count_at counts z q) w.counts-is
          ∙ wide_counted net c.args.of.now (count_at c.loop-x.counts) (count_at w.count_row.new.counts) c.loop-x.x (sym c.is_wide.ensures ∙ w.if-is_wide.true) c.loop-x.invariant
          (λ y r. w.in_ok-count_row.ensures y r ∙ ap (λ (row : List ℕ). cond (eqb c.loop-x.x y) (count_by (λ u. eqb (slice_index c.args.of.now u) r) row) (count_at c.loop-x.counts y r)) (w.row.ensures ∙ c.requires.readers.row c.loop-x.x within)) z q
      | else-is_wide w ↦ λ z q.
          ap (λ (counts : HashMap (ℕ × ℕ) ℕ (BuildHasherDefault FoldHasher)). count_at counts z q) w.counts-is
          ∙ narrow_counted net c.args.of.now (count_at c.loop-x.counts) c.loop-x.x (sym c.is_wide.ensures ∙ w.if-is_wide.false) c.loop-x.invariant z q
    ]
