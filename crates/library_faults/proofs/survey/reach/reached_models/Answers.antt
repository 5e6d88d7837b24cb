use Rattle.std.proofs.Common.{◌≡◌, ◌<◌, subst, sym, ap, ◌∙◌, rules, arith, get_or, [], length}
use Rattle.library_faults.specs.Private.Growth.{Gains}
use Rattle.indexmap.specs.IndexSet.{insert_key}
use Rattle.std.proofs.Common.{nat_eq}
use Rattle.library_faults.proofs.Reaching.{IsReaching, reaching_first, reaching_more, reaching_less, reaching_all}
use Rattle.library_faults.proofs.survey.reach.reached_models.Goals as goal

pub loop-at-init : goal.loop-at-init
loop-at-init c =
    let empty : c.new-reached.result.keys ≡ [] = search rules in
    subst (IsReaching c.args.graph.now 0) (sym (c.in_ok-insert.ensures.keys ∙ ap (λ ks. insert_key nat_eq ks 0) empty)) (reaching_first c.args.graph.now c.requires.some)

pub loop-at-smaller : goal.loop-at-smaller
loop-at-smaller c =
    let below : c.loop-at.at < length c.loop-at.reached.keys = omega arith in
    let less : c.loop-at.at < length c.args.graph.now = reaching_less c.args.graph.now c.loop-at.at c.loop-at.reached.keys c.len.ensures.unique c.loop-at.invariant below in
    omega arith

pub loop-at-preserved : goal.loop-at-preserved
loop-at-preserved c =
    let below : c.loop-at.at < length c.loop-at.reached.keys = omega arith in
    reaching_more c.args.graph.now c.loop-at.at (get_or c.as_slice.result.now c.loop-at.at 0) c.loop-at.reached.keys c.add_all.new.reached.keys c.requires.within below (ap (λ ks. get_or ks c.loop-at.at 0) c.as_slice.ensures.keys) c.loop-at.invariant (subst (λ r. Gains c.loop-at.reached.keys r c.add_all.new.reached.keys) c.row.ensures c.in_ok-add_all.ensures)

pub returns : goal.returns
returns c = reaching_all c.args.graph.now c.loop-at.at c.loop-at.reached.keys c.loop-at.invariant (omega arith)
