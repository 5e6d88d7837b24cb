use Rattle.std.proofs.Common.{◌+◌, ℕ, List, length, sym, ap, subst, arith, IsPermutation}
use Rattle.node_reads.specs.Sources.{other_sources}
use Rattle.partitioner.proofs.LossLaws.{sources_below}
use Rattle.partitioner.proofs.GainLaws.{gained_few, gained_first, gained_more, sources_few}
use Rattle.partitioner.proofs.costs.gains.count_gains.Goals as goal

pub row-readers-requires : goal.row-readers-requires
row-readers-requires c =
    let perm : IsPermutation (other_sources c.args.n.now.net c.args.i) c.row-row.result.now = subst (λ (row : List ℕ). IsPermutation (other_sources c.args.n.now.net c.args.i) row) (sym c.row-row.ensures) (c.requires.tracks.sources c.args.i c.requires.node) in
    omega (arith, sources_below c.args.n.now.net c.args.i c.row-row.result.now perm c.loop-x.x-index 0 c.loop-x-test.true, c.requires.tracks.readers.long)

pub count_source-requires-clause-source : goal.count_source-requires-clause-source
count_source-requires-clause-source c =
    let perm : IsPermutation (other_sources c.args.n.now.net c.args.i) c.row-row.result.now = subst (λ (row : List ℕ). IsPermutation (other_sources c.args.n.now.net c.args.i) row) (sym c.row-row.ensures) (c.requires.tracks.sources c.args.i c.requires.node) in
    sources_below c.args.n.now.net c.args.i c.row-row.result.now perm c.loop-x.x-index 0 c.loop-x-test.true

pub count_source-requires-clause-few : goal.count_source-requires-clause-few
count_source-requires-clause-few c = λ q.
    omega (arith, gained_few c.args.n.now.net c.args.p.now c.args.i c.row-row.result.now c.loop-x.gains c.loop-x.x-index q c.loop-x.invariant, c.loop-x-test.true, ap length c.row-row.ensures, sources_few c.args.n.now.net c.args.p.now c.args.i c.requires.tracks c.requires.node, c.requires.tracks.few)

pub overflow_add-gains-in-loop-x : goal.overflow_add-gains-in-loop-x
overflow_add-gains-in-loop-x c =
    omega (arith, c.count_source.ensures.counted, c.loop-x.invariant.counted, c.loop-x-test.true, ap length c.row-row.ensures, sources_few c.args.n.now.net c.args.p.now c.args.i c.requires.tracks c.requires.node, c.requires.tracks.few)

pub loop-x-preserved : goal.loop-x-preserved
loop-x-preserved c =
    gained_more c.args.n.now.net c.args.p.now c.args.i c.row-row.result.now c.loop-x.gains
    (record { counted = c.count_source.new.gains.counted + 1; most = c.count_source.new.gains.most; from = c.count_source.new.gains.from; turn = c.count_source.new.gains.turn; spots = c.count_source.new.gains.spots }) c.loop-x.x-index
    c.loop-x.invariant c.loop-x-test.true (record { long = c.count_source.ensures.kept.long; past = c.count_source.ensures.kept.past })
    (ap (λ (k : ℕ). k + 1) c.count_source.ensures.counted) c.count_source.ensures.from c.count_source.ensures.turn c.count_source.ensures.near c.count_source.ensures.most

pub loop-x-init : goal.loop-x-init
loop-x-init c =
    let new = c.count_readers.ensures in
    gained_first c.args.n.now.net c.args.p.now c.args.i c.row-row.result.now c.args.gains.now c.count_readers.new.gains c.requires.begun new.kept new.counted new.from new.turn new.near new.most
