use Rattle.std.proofs.Common.{◌++◌, ◌∷◌, [], map, sym, ◌∙◌, ap, arith}
use Rattle.std.specs.List.{range_with_len}
use Rattle.std.proofs.lemmas.List.FromFn.{map-range_with_len_more}
use Rattle.recovery_depth.specs.Private.ChainEnds.{original_at}
use Rattle.recovery_depth.proofs.copies.originals.Goals as goal

pub loop-g-preserved : goal.loop-g-preserved
loop-g-preserved c =
    c.in_ok-push.ensures.items ∙ (ap (λ g. g ++ c.original.result ∷ []) c.loop-g.invariant
    ∙ (ap (λ b. map (original_at c.args.h.now.net c.args.c.now) (range_with_len 0 c.loop-g.g) ++ b ∷ []) c.original.ensures
    ∙ sym (map-range_with_len_more (original_at c.args.h.now.net c.args.c.now) 0 c.loop-g.g c.loop-g.g (omega arith))))
