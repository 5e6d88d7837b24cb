use Rattle.std.proofs.Common.{◌++◌, ◌∷◌, [], map, sym, ◌∙◌, ap, arith}
use Rattle.std.specs.List.{range_with_len}
use Rattle.std.proofs.lemmas.List.FromFn.{map-range_with_len_more}
use Rattle.recovery_depth.specs.Private.Uncut.{uncut_row}
use Rattle.recovery_depth.proofs.uncut.uncut.Goals as goal

pub loop-y-preserved : goal.loop-y-preserved
loop-y-preserved c =
    c.in_ok-push.ensures ∙ (ap (λ g. g ++ c.deref.result.now ∷ []) c.loop-y.invariant
    ∙ (ap (λ r. map (uncut_row c.args.graph.now c.args.cut.now) (range_with_len 0 c.loop-y.y) ++ r ∷ []) (c.deref.ensures.value ∙ c.in_ok-uncut_reads.ensures)
    ∙ sym (map-range_with_len_more (uncut_row c.args.graph.now c.args.cut.now) 0 c.loop-y.y c.loop-y.y (omega arith))))
