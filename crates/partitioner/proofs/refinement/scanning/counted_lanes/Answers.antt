use Rattle.std.proofs.Common.{◌<◌, ℕ, List, get_or, sym, subst, IsPermutation}
use Rattle.node_reads.specs.Sources.{other_sources}
use Rattle.partitioner.proofs.LossLaws.{sources_below}
use Rattle.partitioner.proofs.ScanLaws.{lanes_more}
use Rattle.partitioner.proofs.refinement.scanning.counted_lanes.Goals as goal

pub word-requires : goal.word-requires
word-requires c =
    let perm : IsPermutation (other_sources c.args.n.now.net c.args.i) c.row-row.result.now = subst (λ (row : List ℕ). IsPermutation (other_sources c.args.n.now.net c.args.i) row) (sym c.row-row.ensures) (c.requires.counted.tracks.sources c.args.i c.requires.counted.node) in
    subst (λ (bound : ℕ). get_or c.row-row.result.now c.loop-j.j 0 < bound) (sym c.requires.counted.tracks.marks.long)
    (sources_below c.args.n.now.net c.args.i c.row-row.result.now perm c.loop-j.j 0 c.loop-j-test.true)

pub loop-j-preserved : goal.loop-j-preserved
loop-j-preserved c =
    let perm : IsPermutation (other_sources c.args.n.now.net c.args.i) c.row-row.result.now = subst (λ (row : List ℕ). IsPermutation (other_sources c.args.n.now.net c.args.i) row) (sym c.row-row.ensures) (c.requires.counted.tracks.sources c.args.i c.requires.counted.node) in
    lanes_more c.args.n.now.net c.args.p.now c.args.i c.args.gains.now c.args.level c.args.w c.args.bias c.loop-j.lanes c.add-lanes.result c.row-row.result.now c.loop-j.j c.word.result c.requires.counted.tracks c.row-row.ensures c.loop-j-test.true
    (sources_below c.args.n.now.net c.args.i c.row-row.result.now perm c.loop-j.j 0 c.loop-j-test.true)
    c.word.ensures
    c.add-lanes.ensures
    c.loop-j.invariant
