use Rattle.std.proofs.Common.{◌++◌, ◌∷◌, [], map, sym, ◌∙◌, ap, arith}
use Rattle.std.specs.List.{range_with_len}
use Rattle.std.proofs.lemmas.List.FromFn.{map-range_with_len_more}
use Rattle.recovery_depth.specs.Private.Copied.{copied_row}
use Rattle.recovery_depth.proofs.copies.copy_reads.Goals as goal

pub loop-g-preserved : goal.loop-g-preserved
loop-g-preserved c =
    c.in_ok-push.ensures ∙ (ap (λ g. g ++ c.deref.result.now ∷ []) c.loop-g.invariant
    ∙ (ap (λ r. map (copied_row c.args.h.now.net c.args.c.now) (range_with_len 0 c.loop-g.g) ++ r ∷ []) (c.deref.ensures.value ∙ c.in_ok-copied_reads.ensures)
    ∙ sym (map-range_with_len_more (copied_row c.args.h.now.net c.args.c.now) 0 c.loop-g.g c.loop-g.g (omega arith))))
