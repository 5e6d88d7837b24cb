use Rattle.std.proofs.Common.{◌≡◌, ◌<◌, ◌+◌, ℕ, false, get_or, refl, ap, ◌∙◌, arith}
use Rattle.std.specs.Prelude.{slice_set}
use Rattle.std.proofs.lemmas.List.{get_or_default}
use Rattle.partition_graph.proofs.CountLaws.{none_so_far, one_more, few_so_far}
use Rattle.partition_graph.proofs.counting.tally.Goals as goal

pub loop-x-init : goal.loop-x-init
loop-x-init c = none_so_far c.args.values.now c.args.bits.now c.args.count c.in_ok-counts.counts.items c.in_ok-counts.ensures

pub overflow_add-index_mut : goal.overflow_add-index_mut
overflow_add-index_mut c =
    let q : ℕ = get_or c.args.values.now c.loop-x.x 0 in
    let below : get_or c.args.values.now c.loop-x.x 0 < c.args.count = c.requires.below c.loop-x.x 0 c.loop-x-test.true in
    let old : c.index_mut.result.now ≡ get_or c.loop-x.counts.items (get_or c.args.values.now c.loop-x.x 0) 0 = c.index_mut.ensures.value ∙ get_or_default c.loop-x.counts.items (get_or c.args.values.now c.loop-x.x 0) c.index_mut.result.now 0 (omega (arith, below, c.loop-x.invariant.long)) in
    omega (arith, old, few_so_far c.args.values.now c.args.bits.now c.args.count c.loop-x.x c.loop-x.counts.items (get_or c.args.values.now c.loop-x.x 0) c.loop-x.invariant below, c.one_if-one.ensures.few, c.loop-x-test.true, c.requires.few)

pub loop-x-preserved : goal.loop-x-preserved
loop-x-preserved c =
    let below : get_or c.args.values.now c.loop-x.x 0 < c.args.count = c.requires.below c.loop-x.x 0 c.loop-x-test.true in
    let old : c.index_mut.result.now ≡ get_or c.loop-x.counts.items (get_or c.args.values.now c.loop-x.x 0) 0 = c.index_mut.ensures.value ∙ get_or_default c.loop-x.counts.items (get_or c.args.values.now c.loop-x.x 0) c.index_mut.result.now 0 (omega (arith, below, c.loop-x.invariant.long)) in
    one_more c.args.values.now c.args.bits.now c.args.count c.loop-x.x (get_or c.args.values.now c.loop-x.x 0) c.one_if-one.result (get_or c.args.bits.now c.loop-x.x false) c.loop-x.counts.items
    (slice_set c.loop-x.counts.items (get_or c.args.values.now c.loop-x.x 0) (c.index_mut.result.now + c.one_if-one.result)) c.loop-x.invariant refl below refl c.one_if-one.ensures.count
    (ap (λ (m : ℕ). slice_set c.loop-x.counts.items (get_or c.args.values.now c.loop-x.x 0) (m + c.one_if-one.result)) old)

pub returns-clause-few : goal.returns-clause-few
returns-clause-few c = λ v d h.
    let e = get_or_default c.loop-x.counts.items v d 0 h in
    omega (arith, e, few_so_far c.args.values.now c.args.bits.now c.args.count c.loop-x.x c.loop-x.counts.items v c.loop-x.invariant (omega (arith, h, c.loop-x.invariant.long)), c.loop-x.auto.x-end, c.requires.few)
