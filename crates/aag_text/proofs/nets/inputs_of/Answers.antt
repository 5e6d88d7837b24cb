use Rattle.std.proofs.Common.{◌∙◌, ◌+◌, ◌++◌, ◌∷◌, [], ℕ, List, ap, sym, arith}
use Rattle.std.proofs.lemmas.List.FromFn.{map-range_with_len_more}
use Rattle.aag_text.proofs.nets.inputs_of.Goals as goal

pub loop-i-preserved : goal.loop-i-preserved
loop-i-preserved c = c.in_ok-push.ensures.items ∙ (ap (λ (o : List ℕ). o ++ (c.loop-i.i + 1) ∷ []) c.loop-i.invariant ∙ sym (map-range_with_len_more (λ (k : ℕ). k + 1) 0 c.loop-i.i c.loop-i.i (omega arith)))
