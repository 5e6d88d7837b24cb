use Rattle.std.proofs.Common.{◌≡◌, ◌<◌, ◌+◌, ◌∙◌, ℕ, get_or, set, ap, refl, arith}
use Rattle.std.proofs.lemmas.List.{get_or_read, length-set}
use Rattle.partitioner.proofs.HeldLaws.{held_le, held_counted}
use Rattle.partitioner.proofs.counts.tracking.held_of.Goals as goal

pub overflow_add-index_mut : goal.overflow_add-index_mut
overflow_add-index_mut c =
    let q = get_or c.args.of.now c.loop-q.q-index 0 in
    let within : q < c.args.count = c.requires.in_range c.loop-q.q-index 0 c.loop-q-test.true in
    let was : c.index_mut.result.now ≡ get_or c.loop-q.holds.items q 0 = get_or_read c.loop-q.holds.items q c.index_mut.result.now (omega (arith, within, c.loop-q.invariant.0)) c.index_mut.ensures.value 0 in
    omega (arith, was, c.loop-q.invariant.1 q within, held_le c.args.of.now c.loop-q.q-index q, c.loop-q-test.true, c.requires.few)

pub loop-q-preserved : goal.loop-q-preserved
loop-q-preserved c =
    let q = get_or c.args.of.now c.loop-q.q-index 0 in
    let within : q < c.args.count = c.requires.in_range c.loop-q.q-index 0 c.loop-q-test.true in
    let was : c.index_mut.result.now ≡ get_or c.loop-q.holds.items q 0 = get_or_read c.loop-q.holds.items q c.index_mut.result.now (omega (arith, within, c.loop-q.invariant.0)) c.index_mut.ensures.value 0 in (
      length-set c.loop-q.holds.items q (c.index_mut.result.now + 1) ∙ c.loop-q.invariant.0,
      λ r h. ap (λ (v : ℕ). get_or (set c.loop-q.holds.items q (v + 1)) r 0) was ∙ held_counted c.args.of.now c.loop-q.holds.items c.args.count c.loop-q.q-index q r c.loop-q-test.true c.loop-q.invariant.0 within refl c.loop-q.invariant.1 h,
    )
