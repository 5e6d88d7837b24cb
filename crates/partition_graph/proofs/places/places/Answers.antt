use Rattle.std.proofs.Common.{◌≡◌, ◌+◌, ◌<◌, ℕ, length, get_or, slice_index, sym, ap, ◌∙◌, arith}
use Rattle.std.specs.Prelude.{◌==◌, nat_lt, slice_set, if◌then◌else◌}
use Rattle.std.proofs.lemmas.List.{get_or_default}
use Rattle.partitioner.proofs.BelowLaws.{count_le}
use Rattle.partition_graph.proofs.PlaceLaws.{none_placed, one_placed}
use Rattle.partition_graph.proofs.places.places.Goals as goal

pub loop-p-init : goal.loop-p-init
loop-p-init c =
    none_placed c.args.c.now c.args.nodes.now c.in_ok-exactly.exactly.items c.len.result c.in_ok-seen.seen.items c.new-places.result.items
    (c.len.ensures ∙ (sym c.deref.ensures.len ∙ ap length c.deref.ensures.value)) c.in_ok-seen.ensures c.new-places.ensures.items

pub overflow_add-index : goal.overflow_add-index
overflow_add-index c =
    let below : slice_index c.args.nodes.now c.loop-p.p < length c.in_ok-exactly.exactly.items = c.in_ok-exactly.ensures.below c.loop-p.p 0 c.loop-p-test.true in
    let told = c.in_ok-above.ensures.above (slice_index c.args.nodes.now c.loop-p.p) (omega (arith, below, ap length c.deref.ensures.value)) in
    let a : c.index.result.now ≡ slice_index c.in_ok-above.above.items (slice_index c.args.nodes.now c.loop-p.p) = c.index.ensures ∙ get_or_default c.in_ok-above.above.items (slice_index c.args.nodes.now c.loop-p.p) c.index.result.now 0 (omega (arith, below, ap length c.deref.ensures.value, c.in_ok-above.ensures.long)) in
    let b : c.index-in-loop-p.result.now ≡ slice_index c.loop-p.seen.items (slice_index c.args.nodes.now c.loop-p.p) = c.index-in-loop-p.ensures ∙ get_or_default c.loop-p.seen.items (slice_index c.args.nodes.now c.loop-p.p) c.index-in-loop-p.result.now 0 (omega (arith, below, c.loop-p.invariant.seen_long)) in
    omega (
      arith,
      a,
      b,
      told,
      count_le (length c.args.nodes.now) (λ q. nat_lt (slice_index c.args.nodes.now c.loop-p.p) (slice_index c.args.nodes.now q)),
      c.loop-p.invariant.seen_are (slice_index c.args.nodes.now c.loop-p.p) below,
      count_le c.loop-p.p (λ q. slice_index c.args.nodes.now q == slice_index c.args.nodes.now c.loop-p.p),
      c.loop-p-test.true,
      c.requires.few,
    )

pub overflow_add-index_mut : goal.overflow_add-index_mut
overflow_add-index_mut c =
    let below : slice_index c.args.nodes.now c.loop-p.p < length c.in_ok-exactly.exactly.items = c.in_ok-exactly.ensures.below c.loop-p.p 0 c.loop-p-test.true in
    let old : c.index_mut.result.now ≡ get_or c.loop-p.seen.items (slice_index c.args.nodes.now c.loop-p.p) 0 = c.index_mut.ensures.value ∙ get_or_default c.loop-p.seen.items (slice_index c.args.nodes.now c.loop-p.p) c.index_mut.result.now 0 (omega (arith, below, c.loop-p.invariant.seen_long)) in
    omega (arith, old, c.loop-p.invariant.seen_are (slice_index c.args.nodes.now c.loop-p.p) below, count_le c.loop-p.p (λ q. slice_index c.args.nodes.now q == slice_index c.args.nodes.now c.loop-p.p), c.loop-p-test.true, c.requires.few)

pub loop-p-preserved : goal.loop-p-preserved
loop-p-preserved c =
    let below : slice_index c.args.nodes.now c.loop-p.p < length c.in_ok-exactly.exactly.items = c.in_ok-exactly.ensures.below c.loop-p.p 0 c.loop-p-test.true in
    let old : c.index_mut.result.now ≡ get_or c.loop-p.seen.items (slice_index c.args.nodes.now c.loop-p.p) 0 = c.index_mut.ensures.value ∙ get_or_default c.loop-p.seen.items (slice_index c.args.nodes.now c.loop-p.p) c.index_mut.result.now 0 (omega (arith, below, c.loop-p.invariant.seen_long)) in
    let a : c.index.result.now ≡ slice_index c.in_ok-above.above.items (slice_index c.args.nodes.now c.loop-p.p) = c.index.ensures ∙ get_or_default c.in_ok-above.above.items (slice_index c.args.nodes.now c.loop-p.p) c.index.result.now 0 (omega (arith, below, ap length c.deref.ensures.value, c.in_ok-above.ensures.long)) in
    let b : c.index-in-loop-p.result.now ≡ slice_index c.loop-p.seen.items (slice_index c.args.nodes.now c.loop-p.p) = c.index-in-loop-p.ensures ∙ get_or_default c.loop-p.seen.items (slice_index c.args.nodes.now c.loop-p.p) c.index-in-loop-p.result.now 0 (omega (arith, below, c.loop-p.invariant.seen_long)) in
    one_placed c.args.c.now c.args.nodes.now c.in_ok-exactly.exactly.items c.loop-p.p (slice_index c.in_ok-above.above.items (slice_index c.args.nodes.now c.loop-p.p)) c.place.result c.loop-p.seen.items c.loop-p.places.items
    (slice_set c.loop-p.seen.items (slice_index c.args.nodes.now c.loop-p.p) (c.index_mut.result.now + 1)) c.push.new.self.items c.requires.nodes c.loop-p-test.true below
    (c.in_ok-above.ensures.above (slice_index c.args.nodes.now c.loop-p.p) (omega (arith, below, ap length c.deref.ensures.value))) c.loop-p.invariant
    (c.place.ensures ∙ λ i. (if nat_lt (a i + b i) 400 then c.loop-p.p else length c.args.nodes.now)) c.in_ok-push.ensures.items
    (ap (λ (v : ℕ). slice_set c.loop-p.seen.items (slice_index c.args.nodes.now c.loop-p.p) (v + 1)) old)
