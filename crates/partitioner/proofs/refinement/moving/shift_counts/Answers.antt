use Rattle.std.proofs.Common.{◌+◌, ◌-◌, ◌∙◌, ℕ, cond, eqb, ◌&&◌, get_or, ap, arith}
use Rattle.node_reads.specs.Private.Marking.{marked_by_row}
use Rattle.partitioner.specs.Private.Counting.{count_at}
use Rattle.partitioner.proofs.ShiftLaws.{not_before, shift_still, shift_more}
use Rattle.partitioner.proofs.refinement.moving.shift_counts.Goals as goal

pub overflow_sub-here : goal.overflow_sub-here
overflow_sub-here c =
    let x = get_or c.args.row.now c.loop-x.x-index 0 in
    let first = not_before c.args.row.now c.loop-x.x-index c.loop-x-test.true (c.requires.once c.loop-x.x-index 0 c.loop-x-test.true) in
    let still = shift_still (count_at c.args.counts.now) (count_at c.loop-x.counts) (marked_by_row c.args.row.now c.loop-x.x-index) c.args.a c.args.b x c.args.a c.loop-x.invariant first in
    omega (arith, still, c.count_at-here.ensures, c.requires.counted c.loop-x.x-index 0 c.loop-x-test.true)

pub overflow_add-there : goal.overflow_add-there
overflow_add-there c =
    let x = get_or c.args.row.now c.loop-x.x-index 0 in
    let first = not_before c.args.row.now c.loop-x.x-index c.loop-x-test.true (c.requires.once c.loop-x.x-index 0 c.loop-x-test.true) in
    let still = shift_still (count_at c.args.counts.now) (count_at c.loop-x.counts) (marked_by_row c.args.row.now c.loop-x.x-index) c.args.a c.args.b x c.args.b c.loop-x.invariant first in
    omega (arith, still, c.count_at-there.ensures, c.requires.few c.loop-x.x-index 0 c.loop-x-test.true)

pub loop-x-preserved : goal.loop-x-preserved
loop-x-preserved c =
    let row = c.args.row.now in
    let x = get_or row c.loop-x.x-index 0 in
    let now = count_at c.loop-x.counts in
    let first = not_before row c.loop-x.x-index c.loop-x-test.true (c.requires.once c.loop-x.x-index 0 c.loop-x-test.true) in
    shift_more (count_at c.args.counts.now) now (count_at c.set_count-in-loop-x.new.counts) row c.loop-x.x-index c.args.a c.args.b c.loop-x-test.true c.requires.apart first (c.requires.counted c.loop-x.x-index 0 c.loop-x-test.true) c.loop-x.invariant
    (λ z q. c.in_ok-set_count-2.ensures z q
    ∙ (ap (λ (k : ℕ). cond (eqb x z && eqb c.args.b q) (k + 1) (count_at c.set_count.new.counts z q)) c.count_at-there.ensures
    ∙ ap (λ (k : ℕ). cond (eqb x z && eqb c.args.b q) (now x c.args.b + 1) k)
    (c.in_ok-set_count.ensures z q ∙ ap (λ (k : ℕ). cond (eqb x z && eqb c.args.a q) (k - 1) (now z q)) c.count_at-here.ensures)))
