use Rattle.std.proofs.Common.{get_or, sym, ap, ◌∙◌, List, ℕ, ◌∷◌, [], ◌++◌}
use Rattle.flat_net.proofs.Slots.{slice_get_there}
use Rattle.std.proofs.lemmas.Option.{get_or_from_slice_get}
use Rattle.aag_design.specs.Draft.{numbered}
use Rattle.aag_design.proofs.DraftLaws.{outputs_more}
use Rattle.aag_design.proofs.drafting.push_outputs.Goals as goal

pub loop-k-preserved : goal.loop-k-preserved
loop-k-preserved c =
    let (x, e) = slice_get_there c.args.outputs.now c.loop-k.k c.loop-k-test.true in
    outputs_more (λ k m. numbered 111 k) c.args.outputs.now c.loop-k.k x c.loop-k.draft c.push_output.new.self _ c.loop-k-test.true (sym (get_or_from_slice_get c.args.outputs.now c.loop-k.k x x e)) (c.in_ok-push_output.ensures.ok ∙ ap (λ (n : List ℕ). record c.loop-k.draft { outputs = c.loop-k.draft.outputs ++ n ∷ [] }) c.in_ok-name.ensures) c.loop-k.invariant
