use Rattle.std.proofs.Common.{◌++◌, ◌∷◌, [], map, sym, ◌∙◌, ap, arith}
use Rattle.std.specs.List.{range_with_len}
use Rattle.std.proofs.lemmas.List.FromFn.{map-range_with_len_more}
use Rattle.recovery_depth.specs.Private.Uncut.{uncut_entry}
use Rattle.recovery_depth.proofs.uncut.uncut_reads.Goals as goal

pub loop-place-preserved : goal.loop-place-preserved
loop-place-preserved c =
    c.in_ok-push.ensures.items ∙ (ap (λ g. g ++ c.uncut_read.result ∷ []) c.loop-place.invariant
    ∙ (ap (λ b. map (uncut_entry c.args.graph.now c.args.cut.now c.args.y) (range_with_len 0 c.loop-place.place) ++ b ∷ []) c.uncut_read.ensures
    ∙ sym (map-range_with_len_more (uncut_entry c.args.graph.now c.args.cut.now c.args.y) 0 c.loop-place.place c.loop-place.place (omega arith))))
