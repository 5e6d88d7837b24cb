use Rattle.std.proofs.Common.{◌++◌, ◌∷◌, [], map, sym, ◌∙◌, ap, arith}
use Rattle.std.specs.List.{range_with_len}
use Rattle.std.proofs.lemmas.List.FromFn.{map-range_with_len_more}
use Rattle.feedback_cut.specs.Registers.{is_register_at}
use Rattle.feedback_cut.proofs.register_nodes.registers.Goals as goal

pub loop-x-preserved : goal.loop-x-preserved
loop-x-preserved c =
    c.in_ok-push.ensures.items ∙ (ap (λ g. g ++ c.is_register.result ∷ []) c.loop-x.invariant
    ∙ (ap (λ b. map (is_register_at c.args.n.now.net) (range_with_len 0 c.loop-x.x) ++ b ∷ []) c.is_register.ensures
    ∙ sym (map-range_with_len_more (is_register_at c.args.n.now.net) 0 c.loop-x.x c.loop-x.x (omega arith))))
