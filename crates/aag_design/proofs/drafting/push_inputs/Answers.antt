use Rattle.std.proofs.Common.{get_or, sym, ap, ◌∙◌, List, ℕ, ◌∷◌, [], ◌++◌}
use Rattle.flat_net.proofs.Slots.{slice_get_there}
use Rattle.std.proofs.lemmas.Option.{get_or_from_slice_get}
use Rattle.aag_design.specs.Draft.{numbered}
use Rattle.aag_design.proofs.DraftLaws.{inputs_more}
use Rattle.aag_design.proofs.drafting.push_inputs.Goals as goal

pub loop-i-preserved : goal.loop-i-preserved
loop-i-preserved c =
    let (x, e) = slice_get_there c.args.inputs.now c.loop-i.i c.loop-i-test.true in
    inputs_more (λ i v. numbered 105 i) c.args.inputs.now c.loop-i.i x c.loop-i.draft c.push_input.new.self _ c.loop-i-test.true (sym (get_or_from_slice_get c.args.inputs.now c.loop-i.i x x e)) (c.in_ok-push_input.ensures.ok ∙ ap (λ (n : List ℕ). record c.loop-i.draft { inputs = c.loop-i.draft.inputs ++ n ∷ [] }) c.in_ok-name.ensures) c.loop-i.invariant
