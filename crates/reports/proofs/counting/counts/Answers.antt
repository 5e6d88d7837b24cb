use Rattle.std.proofs.Common.{◌≡◌, ◌+◌, ℕ, get_or, refl, ap, ◌∙◌, arith}
use Rattle.std.specs.Prelude.{slice_set}
use Rattle.std.proofs.lemmas.List.{get_or_default}
use Rattle.reports.proofs.CountLaws.{none_so_far, one_more_node, few_so_far}
use Rattle.reports.proofs.counting.counts.Goals as goal

pub loop-x-init : goal.loop-x-init
loop-x-init c = none_so_far c.args.parts.now.of c.args.bits.now c.count.result c.args.parts.now.count c.in_ok-counts.counts.items c.count.ensures c.in_ok-counts.ensures

pub overflow_add-index_mut : goal.overflow_add-index_mut
overflow_add-index_mut c =
    let old : c.index_mut.result.now ≡ get_or c.loop-x.counts.items c.of.result 0 = c.index_mut.ensures.value ∙ get_or_default c.loop-x.counts.items c.of.result c.index_mut.result.now 0 (omega (arith, c.of.ensures.range, c.loop-x.invariant.long)) in
    omega (arith, old, few_so_far c.args.parts.now.of c.args.bits.now c.args.parts.now.count c.loop-x.x c.loop-x.counts.items c.of.result c.loop-x.invariant c.of.ensures.range, c.one_if-one.ensures.few, c.loop-x-test.true, c.len-x-end.ensures.len, c.len-x-end.ensures.few)

pub loop-x-preserved : goal.loop-x-preserved
loop-x-preserved c =
    let old : c.index_mut.result.now ≡ get_or c.loop-x.counts.items c.of.result 0 = c.index_mut.ensures.value ∙ get_or_default c.loop-x.counts.items c.of.result c.index_mut.result.now 0 (omega (arith, c.of.ensures.range, c.loop-x.invariant.long)) in
    one_more_node c.args.parts.now.of c.args.bits.now c.args.parts.now.count c.loop-x.x c.of.result c.one_if-one.result _ c.loop-x.counts.items (slice_set c.loop-x.counts.items c.of.result (c.index_mut.result.now + c.one_if-one.result)) c.loop-x.invariant c.of.ensures.value c.of.ensures.range refl c.one_if-one.ensures.count (ap (λ (m : ℕ). slice_set c.loop-x.counts.items c.of.result (m + c.one_if-one.result)) old)
