use Rattle.std.proofs.Common.{◌≡◌, ◌++◌, ◌∷◌, [], map, drop}
use Rattle.blif_writer.specs.Text.{lines_text}
use Rattle.aag_text.specs.Text.{variable_word}
use Rattle.aag_text.proofs.text.put_inputs.Given as goal

abbrev pub invariant-loop-input : goal.invariant-loop-input
invariant-loop-input l = l.out.items ++ lines_text (map (λ v. variable_word v ∷ []) (drop l.input-index l.inputs)) ≡ l.fn.out.items ++ lines_text (map (λ v. variable_word v ∷ []) l.inputs)
