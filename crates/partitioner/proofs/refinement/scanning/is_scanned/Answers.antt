use Rattle.std.proofs.Common.{◌<◌, ℕ, List, get_or, sym, subst, IsPermutation}
use Rattle.node_reads.specs.Sources.{other_sources}
use Rattle.partitioner.proofs.LossLaws.{sources_below}
use Rattle.partitioner.proofs.refinement.scanning.is_scanned.Goals as goal

pub has_row-requires : goal.has_row-requires
has_row-requires c =
    let perm : IsPermutation (other_sources c.args.n.now.net c.args.i) c.row-row.result.now = subst (λ (row : List ℕ). IsPermutation (other_sources c.args.n.now.net c.args.i) row) (sym c.row-row.ensures) (c.requires.tracks.sources c.args.i c.requires.node) in
    subst (λ (bound : ℕ). get_or c.row-row.result.now c.loop-j.j 0 < bound) (sym c.requires.tracks.marks.long)
    (sources_below c.args.n.now.net c.args.i c.row-row.result.now perm c.loop-j.j 0 c.loop-j-test.true)
