use Rattle.std.proofs.Common.{◌+◌, ℕ, get_or, set, refl, ap, subst, arith}
use Rattle.graph.specs.Rows.{row}
use Rattle.recovery_depth.specs.Walks.{is_marked}
use Rattle.recovery_depth.specs.Private.Reaching.{IsGreatestOf}
use Rattle.recovery_depth.proofs.ReachLaws.{small_reach, one_more, all_known, little}
use Rattle.recovery_depth.proofs.reaching.reaches_in.Goals as goal

pub overflow_add-most : goal.overflow_add-most
overflow_add-most c =
    let x : ℕ = get_or c.args.order.now c.loop-x.x-index 0 in
    let g : IsGreatestOf (row c.args.graph.now x) c.loop-x.reaches.items c.greatest_of-most.result = subst (λ r. IsGreatestOf r c.loop-x.reaches.items c.greatest_of-most.result) c.row.ensures (subst (λ r. IsGreatestOf c.row.result.now r c.greatest_of-most.result) c.as_slice.ensures.value c.greatest_of-most.ensures) in
    let small = small_reach c.args.graph.now c.args.is_register.now c.args.order.now c.loop-x.reaches.items c.loop-x.x-index x c.greatest_of-most.result c.requires.ordered c.loop-x.invariant c.loop-x-test.true refl g in
    omega (arith, small, c.own_count.ensures, little (is_marked c.args.is_register.now x), c.requires.ordered.few, c.requires.count, c.loop-x-test.true, c.ranges.count.fits)

pub loop-x-preserved : goal.loop-x-preserved
loop-x-preserved c =
    let x : ℕ = get_or c.args.order.now c.loop-x.x-index 0 in
    let g : IsGreatestOf (row c.args.graph.now x) c.loop-x.reaches.items c.greatest_of-most.result = subst (λ r. IsGreatestOf r c.loop-x.reaches.items c.greatest_of-most.result) c.row.ensures (subst (λ r. IsGreatestOf c.row.result.now r c.greatest_of-most.result) c.as_slice.ensures.value c.greatest_of-most.ensures) in
    one_more c.args.graph.now c.args.is_register.now c.args.order.now c.loop-x.reaches.items c.loop-x.x-index x c.greatest_of-most.result c.requires.ordered c.loop-x.invariant c.loop-x-test.true refl g _ (ap (λ (o : ℕ). set c.loop-x.reaches.items x (c.greatest_of-most.result + o)) c.own_count.ensures)

pub returns-clause-each : goal.returns-clause-each
returns-clause-each c = λ x l.
    all_known c.args.graph.now c.args.is_register.now c.args.order.now c.loop-x.reaches.items c.loop-x.x-index c.requires.ordered c.loop-x.invariant c.loop-x-test.false x (omega (arith, c.requires.count, l))
