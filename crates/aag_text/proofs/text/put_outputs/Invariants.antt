use Rattle.std.proofs.Common.{◌≡◌, ◌++◌, ◌∷◌, [], map, drop}
use Rattle.blif_writer.specs.Text.{lines_text}
use Rattle.aag_text.specs.Text.{literal_word}
use Rattle.aag_text.proofs.text.put_outputs.Given as goal

abbrev pub invariant-loop-output : goal.invariant-loop-output
invariant-loop-output l = l.out.items ++ lines_text (map (λ m. literal_word m ∷ []) (drop l.output-index l.outputs)) ≡ l.fn.out.items ++ lines_text (map (λ m. literal_word m ∷ []) l.outputs)
