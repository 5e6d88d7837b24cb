use Rattle.std.proofs.Common.{◌+◌, ◌==◌, ◌&&◌, ◌<◌, ℕ, cond, get_or, set, length, refl, sym, ap, ◌∙◌, subst, arith}
use Rattle.graph.specs.Rows.{row}
use Rattle.recovery_depth.specs.Walks.{is_marked}
use Rattle.recovery_depth.specs.Private.Reaching.{IsGreatestOf}
use Rattle.recovery_depth.specs.Private.Uncut.{uncut_row, uncut_rows}
use Rattle.recovery_depth.proofs.UncutLaws.{uncut_long, uncut_at}
use Rattle.recovery_depth.proofs.SettledLaws.{none_so_far, one_more_settled, all_settled}
use Rattle.recovery_depth.proofs.bounding.bounded_labels.Goals as goal

pub loop-x-init : goal.loop-x-init
loop-x-init c =
    none_so_far (uncut_rows c.args.graph.now c.args.cut.now) c.args.is_register.now c.args.order.now c.in_ok-marks.marks.items c.in_ok-labels.labels.items c.args.most c.args.count
    (c.requires.count ∙ sym (uncut_long c.args.graph.now c.args.cut.now)) (c.in_ok-marks.ensures.items_if_clones_equal (λ y e. e)) (c.in_ok-labels.ensures.items_if_clones_equal (λ y e. e))

pub loop-x-preserved : goal.loop-x-preserved
loop-x-preserved c =
    let x : ℕ = get_or c.args.order.now c.loop-x.x-index 0 in
    let rows = c.args.graph.now in
    let cut = c.args.cut.now in
    let within : x < length rows = omega (arith, uncut_long rows cut, c.requires.ordered.within c.loop-x.x-index c.loop-x-test.true) in
    let g : IsGreatestOf (row (uncut_rows rows cut) x) c.loop-x.labels.items c.greatest_uncut-greatest.result = subst (λ r. IsGreatestOf r c.loop-x.labels.items c.greatest_uncut-greatest.result) (sym (uncut_at rows cut x within)) (subst (λ r. IsGreatestOf (uncut_row rows cut x) r c.greatest_uncut-greatest.result) c.as_slice.ensures.value c.greatest_uncut-greatest.ensures) in
    one_more_settled (uncut_rows rows cut) c.args.is_register.now c.args.order.now c.loop-x.marks.items c.loop-x.labels.items c.args.most c.loop-x.x-index x c.greatest_uncut-greatest.result c.requires.ordered c.loop-x.invariant c.loop-x-test.true refl g c.requires.most _ _
    (ap (set c.loop-x.marks.items x) c.reads_most-mark.ensures)
    (ap (set c.loop-x.labels.items x) (ap (λ (v : ℕ). v + c.own_count.result) (c.brought.ensures ∙ ap (λ b. cond b 0 c.greatest_uncut-greatest.result) c.reads_most-mark.ensures) ∙ ap (λ (o : ℕ). cond (is_marked c.args.is_register.now x && c.greatest_uncut-greatest.result == c.args.most) 0 c.greatest_uncut-greatest.result + o) c.own_count.ensures))

pub returns : goal.returns
returns c = all_settled (uncut_rows c.args.graph.now c.args.cut.now) c.args.is_register.now c.args.order.now c.loop-x.marks.items c.loop-x.labels.items c.args.most c.loop-x.x-index c.requires.ordered c.loop-x.invariant c.loop-x-test.false
