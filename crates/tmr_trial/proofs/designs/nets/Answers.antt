use Rattle.std.proofs.Common.{◌+◌, ◌++◌, [], ◌∷◌, ℕ, List, map, sym, ap, ◌∙◌}
use Rattle.std.proofs.lemmas.List.{map-append}
use Rattle.flat_net.specs.Nodes.{number_of}
use Rattle.tmr_trial.proofs.Making.{range_more}
use Rattle.tmr_trial.proofs.designs.nets.Goals as goal

pub loop-k-preserved : goal.loop-k-preserved
loop-k-preserved c =
    ap (map number_of) c.in_ok-push.ensures.items ∙ (map-append number_of c.loop-k.nets.items _ ∙ (ap (λ (xs : List ℕ). xs ++ (c.args.start + c.loop-k.k) ∷ []) c.loop-k.invariant ∙ sym (range_more c.args.start c.loop-k.k)))
