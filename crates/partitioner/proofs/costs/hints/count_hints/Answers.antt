use Rattle.std.proofs.Common.{◌+◌, ℕ, List, length, sym, ap, subst, arith, IsPermutation}
use Rattle.node_reads.specs.Sources.{other_sources}
use Rattle.partitioner.proofs.GainLaws.{sources_few}
use Rattle.partitioner.proofs.HintLaws.{hinted_first, hinted_hints, hinted_more}
use Rattle.partitioner.proofs.LossLaws.{sources_below}
use Rattle.partitioner.proofs.costs.hints.count_hints.Goals as goal

pub loop-j-init : goal.loop-j-init
loop-j-init c =
    hinted_first c.args.mover.now.net.now.net c.args.mover.now.size c.args.mover.now.parts.now c.args.mover.now.node c.row-row.result.now c.args.mover.now.gains.now c.no_hints.new.hints c.row-row.ensures c.requires.counted c.no_hints.ensures.begun c.no_hints.ensures.none

pub loop-j-preserved : goal.loop-j-preserved
loop-j-preserved c =
    let new = c.hint_source.ensures in
    hinted_more c.args.mover.now.net.now.net c.args.mover.now.size c.args.mover.now.parts.now c.args.mover.now.node c.row-row.result.now c.args.mover.now.gains.now c.loop-j.hints
    (record { counted = c.hint_source.new.hints.counted + 1; most = c.hint_source.new.hints.most; from = c.hint_source.new.hints.from; turn = c.hint_source.new.hints.turn; spots = c.hint_source.new.hints.spots }) c.loop-j.j
    c.loop-j.invariant c.loop-j-test.true (record { long = new.kept.long; past = new.kept.past })
    (ap (λ (k : ℕ). k + 1) new.counted) new.from new.turn (new.near c.args.mover.now.node) new.once new.most

pub is_wide-requires-clause-node : goal.is_wide-requires-clause-node
is_wide-requires-clause-node c =
    let perm : IsPermutation (other_sources c.args.mover.now.net.now.net c.args.mover.now.node) c.row-row.result.now = subst (λ (row : List ℕ). IsPermutation (other_sources c.args.mover.now.net.now.net c.args.mover.now.node) row) (sym c.row-row.ensures) (c.requires.counted.tracks.sources c.args.mover.now.node c.requires.counted.node) in
    sources_below c.args.mover.now.net.now.net c.args.mover.now.node c.row-row.result.now perm c.loop-j.j 0 c.loop-j-test.true

pub set-requires : goal.set-requires
set-requires c =
    let perm : IsPermutation (other_sources c.args.mover.now.net.now.net c.args.mover.now.node) c.row-row.result.now = subst (λ (row : List ℕ). IsPermutation (other_sources c.args.mover.now.net.now.net c.args.mover.now.node) row) (sym c.row-row.ensures) (c.requires.counted.tracks.sources c.args.mover.now.node c.requires.counted.node) in
    omega (arith, sources_below c.args.mover.now.net.now.net c.args.mover.now.node c.row-row.result.now perm c.loop-j.j 0 c.loop-j-test.true, c.requires.spots.free_long)

pub hint_source-requires-clause-source : goal.hint_source-requires-clause-source
hint_source-requires-clause-source c =
    let perm : IsPermutation (other_sources c.args.mover.now.net.now.net c.args.mover.now.node) c.row-row.result.now = subst (λ (row : List ℕ). IsPermutation (other_sources c.args.mover.now.net.now.net c.args.mover.now.node) row) (sym c.row-row.ensures) (c.requires.counted.tracks.sources c.args.mover.now.node c.requires.counted.node) in
    sources_below c.args.mover.now.net.now.net c.args.mover.now.node c.row-row.result.now perm c.loop-j.j 0 c.loop-j-test.true

pub hint_source-requires-clause-few : goal.hint_source-requires-clause-few
hint_source-requires-clause-few c = λ q.
    omega (arith, c.loop-j.invariant.few q, c.loop-j.invariant.counted, c.loop-j-test.true, ap length c.row-row.ensures, sources_few c.args.mover.now.net.now.net c.args.mover.now.parts.now c.args.mover.now.node c.requires.counted.tracks c.requires.counted.node, c.requires.counted.tracks.few)

pub returns : goal.returns
returns c = hinted_hints c.args.mover.now.net.now.net c.args.mover.now.size c.args.mover.now.parts.now c.args.mover.now.node c.row-row.result.now c.args.mover.now.gains.now c.loop-j.hints c.loop-j.j c.row-row.ensures c.loop-j.invariant
