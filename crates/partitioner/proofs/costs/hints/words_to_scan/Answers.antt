use Rattle.std.proofs.Common.{ℕ, List, sym, subst, arith, IsPermutation}
use Rattle.node_reads.specs.Sources.{other_sources}
use Rattle.partitioner.proofs.LossLaws.{sources_below}
use Rattle.partitioner.proofs.costs.hints.words_to_scan.Goals as goal

pub word_count-requires : goal.word_count-requires
word_count-requires c =
    let perm : IsPermutation (other_sources c.args.mover.now.net.now.net c.args.mover.now.node) c.row-row.result.now = subst (λ (row : List ℕ). IsPermutation (other_sources c.args.mover.now.net.now.net c.args.mover.now.node) row) (sym c.row-row.ensures) (c.requires.counted.tracks.sources c.args.mover.now.node c.requires.counted.node) in
    omega (arith, sources_below c.args.mover.now.net.now.net c.args.mover.now.node c.row-row.result.now perm c.loop-j.j 0 c.loop-j-test.true, c.requires.counted.tracks.marks.long)
