use Rattle.std.proofs.Common.{arith, ◌++◌, ◌∷◌, [], map, sym, ◌∙◌, ap}
use Rattle.std.specs.List.{range_with_len}
use Rattle.std.proofs.lemmas.List.FromFn.{map-range_with_len_more}
use Rattle.feedback_cut.specs.Private.SelfReads.{self_read, self_row}
use Rattle.feedback_cut.proofs.self_reads.with_self_reads.Goals as goal

pub loop-y-preserved : goal.loop-y-preserved
loop-y-preserved c =
    c.in_ok-push.ensures ∙ (ap (λ g. g ++ c.deref.result.now ∷ []) c.loop-y.invariant
    ∙ (ap (λ r. map (self_row c.args.n.now.net c.args.groups.now.of c.args.graph.now) (range_with_len 0 c.loop-y.y) ++ r ∷ []) (c.deref.ensures.value ∙ (c.in_ok-self_reads.ensures ∙ ap (map (self_read c.args.n.now.net c.args.groups.now.of c.loop-y.y)) c.row.ensures))
    ∙ sym (map-range_with_len_more (self_row c.args.n.now.net c.args.groups.now.of c.args.graph.now) 0 c.loop-y.y c.loop-y.y (omega arith))))
