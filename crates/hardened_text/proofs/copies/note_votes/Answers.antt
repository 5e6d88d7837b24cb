use Rattle.std.proofs.Common.{Bool, List, [], ◌∷◌, ◌++◌, map, sym, ap, ◌∙◌, arith}
use Rattle.std.specs.List.{range_with_len}
use Rattle.std.proofs.lemmas.List.FromFn.{map-range_with_len_more}
use Rattle.triplicate.specs.Planned.{plan_votes}
use Rattle.hardened_text.proofs.copies.note_votes.Goals as goal

pub loop-j-preserved : goal.loop-j-preserved
loop-j-preserved c =
    let f = plan_votes c.args.n.now.net c.args.plan.now c.args.y in
    c.in_ok-push.ensures.items ∙ (ap (λ (bs : List Bool). bs ++ c.is_voted.result ∷ []) c.loop-j.invariant
    ∙ (ap (λ (b : Bool). map f (range_with_len 0 c.loop-j.j) ++ b ∷ []) c.is_voted.ensures
    ∙ sym (map-range_with_len_more f 0 c.loop-j.j c.loop-j.j (omega arith))))
