use Rattle.std.proofs.Common.{◌∙◌, ◌++◌, ◌∷◌, [], ℕ, List, map, ap}
use Rattle.blif_writer.specs.Text.{line_text, lines_text}
use Rattle.aag_text.specs.declared.aig.Header.{Header}
use Rattle.aag_text.specs.declared.aig.Literal.{Literal}
use Rattle.aag_text.specs.declared.aig.Latch.{Latch}
use Rattle.aag_text.specs.declared.aig.Gate.{Gate}
use Rattle.aag_text.specs.Text.{variable_word, literal_word, header_line, latch_line, gate_line}
use Rattle.aag_text.specs.Aig.{plain_aig}
use Rattle.aag_text.proofs.Puts.{graph_put}
use Rattle.aag_text.proofs.text.put_graph.Goals as goal

pub returns : goal.returns
returns c = graph_put (plain_aig c.args.a.now) _ c.args.out.now.items c.put_header.new.out.items c.put_inputs.new.out.items c.put_latches.new.out.items c.put_outputs.new.out.items c.put_gates.new.out.items
    (c.in_ok-put_header.ensures ∙ ap (λ (h : Header). c.args.out.now.items ++ line_text (header_line h)) c.header.ensures)
    (c.in_ok-put_inputs.ensures ∙ ap (λ (xs : List ℕ). c.put_header.new.out.items ++ lines_text (map (λ v. variable_word v ∷ []) xs)) c.deref.ensures.value)
    (c.in_ok-put_latches.ensures ∙ ap (λ (xs : List Latch). c.put_inputs.new.out.items ++ lines_text (map latch_line xs)) c.deref-2.ensures.value)
    (c.in_ok-put_outputs.ensures ∙ ap (λ (xs : List Literal). c.put_latches.new.out.items ++ lines_text (map (λ (m : Literal). literal_word m ∷ []) xs)) c.deref-3.ensures.value)
    (c.in_ok-put_gates.ensures ∙ ap (λ (xs : List Gate). c.put_outputs.new.out.items ++ lines_text (map gate_line xs)) c.deref-4.ensures.value)
