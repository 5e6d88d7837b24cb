use Rattle.std.proofs.Common.{◌≤◌, get_or, refl, arith, below_more}
use Rattle.std.proofs.lemmas.Bool.{false≢true}
use Rattle.std.proofs.lemmas.List.{get_or_default}
use Rattle.std.proofs.lemmas.List.Sorted.{All-permutation}
use Rattle.node_reads.specs.Sources.{other_sources}
use Rattle.partitioner.specs.Private.Resting.{changed_at, rested_at}
use Rattle.partitioner.proofs.LossLaws.{sources_below}
use Rattle.partitioner.proofs.RestLaws.{row_permutes, sources_all}
use Rattle.partitioner.proofs.refinement.resting.is_resting.Goals as goal

pub index-requires-in-loop-x : goal.index-requires-in-loop-x
index-requires-in-loop-x c =
    let perm = row_permutes c.args.n.now.net c.args.p.now c.args.i c.row-x-items.result.now c.requires.tracks c.requires.node c.row-x-items.ensures in
    omega (arith, sources_below c.args.n.now.net c.args.i c.row-x-items.result.now perm c.loop-x.x-index 0 c.loop-x-test.true, c.requires.dated.changed_long)

pub loop-x-preserved : goal.loop-x-preserved
loop-x-preserved c =
    let perm = row_permutes c.args.n.now.net c.args.p.now c.args.i c.row-x-items.result.now c.requires.tracks c.requires.node c.row-x-items.ensures in
    let within = sources_below c.args.n.now.net c.args.i c.row-x-items.result.now perm c.loop-x.x-index 0 c.loop-x-test.true in
    let at = get_or_default c.args.rest.now.changed.items (get_or c.row-x-items.result.now c.loop-x.x-index 0) 0 c.index-in-loop-x.result.now (omega (arith, within, c.requires.dated.changed_long)) in
    below_more _ _ c.loop-x.invariant (omega (arith, c.if-since-index-2.false, c.index-in-loop-x.ensures, at))

pub returns : goal.returns
returns c =
    let perm = row_permutes c.args.n.now.net c.args.p.now c.args.i c.row-x-items.result.now c.requires.tracks c.requires.node c.row-x-items.ensures in
    let since = get_or_default c.args.rest.now.rested.items c.args.i 0 c.index-since.result.now (omega (arith, c.requires.node, c.requires.dated.rested_long)) in
    let own = get_or_default c.args.rest.now.changed.items c.args.i 0 c.index.result.now (omega (arith, c.requires.node, c.requires.dated.changed_long)) in (
      λ e. record {
        some = omega (arith, c.if-since-eq0.false, c.index-since.ensures, since);
        own = omega (arith, c.if-since-index.false, c.index.ensures, c.index-since.ensures, own, since);
        sources = sources_all (λ x. changed_at c.args.rest.now x ≤ rested_at c.args.rest.now c.args.i) c.args.n.now.net c.args.i c.row-x-items.result.now perm
            (λ k h. omega (arith, c.loop-x.invariant k (omega (arith, h, c.loop-x-test.false)), c.index-since.ensures, since));
      },
      λ is. refl,
    )

pub returns-then-since-index-2 : goal.returns-then-since-index-2
returns-then-since-index-2 c =
    let perm = row_permutes c.args.n.now.net c.args.p.now c.args.i c.row-x-items.result.now c.requires.tracks c.requires.node c.row-x-items.ensures in
    let within = sources_below c.args.n.now.net c.args.i c.row-x-items.result.now perm c.loop-x.x-index 0 c.loop-x-test.true in
    let since = get_or_default c.args.rest.now.rested.items c.args.i 0 c.index-since.result.now (omega (arith, c.requires.node, c.requires.dated.rested_long)) in
    let at = get_or_default c.args.rest.now.changed.items (get_or c.row-x-items.result.now c.loop-x.x-index 0) 0 c.index-in-loop-x.result.now (omega (arith, within, c.requires.dated.changed_long)) in (
      λ h. absurd (false≢true h),
      λ is.
          let early = All-permutation (λ x. changed_at c.args.rest.now x ≤ rested_at c.args.rest.now c.args.i) (other_sources c.args.n.now.net c.args.i) c.row-x-items.result.now perm is.sources c.loop-x.x-index 0 c.loop-x-test.true in
          absurd (omega (arith, early, c.if-since-index-2.true, c.index-in-loop-x.ensures, at, c.index-since.ensures, since)),
    )
