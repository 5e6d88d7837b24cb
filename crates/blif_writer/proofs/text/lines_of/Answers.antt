use Rattle.std.proofs.Common.{◌≡◌, ◌∙◌, ◌++◌, [], ◌∷◌, ap}
use Rattle.std.specs.Prelude.{codes}
use Rattle.flat_net.specs.Net.{Net}
use Rattle.blif_writer.specs.Text.{net_words, clock_words}
use Rattle.blif_writer.specs.Left.{spaced_line}
use Rattle.blif_writer.specs.Marks.{net_in, marks_in}
use Rattle.blif_writer.proofs.TextLaws.{text_put}
use Rattle.blif_writer.proofs.text.lines_of.Goals as goal

pub returns : goal.returns
returns c =
    let n : Net = net_in c.args.design in
    let same : c.net-net.result.now.net ≡ n = c.net-net.ensures in
    text_put n (marks_in c.args.design) c.new-out.result.items c.put_model.new.out.items c.put_input_line.new.out.items c.put_output_line.new.out.items c.put_nodes.new.out.items c.extend_from_slice.new.self.items c.new-out.ensures.items
    (c.in_ok-put_model.ensures ∙ ap (λ (m : Net). c.new-out.result.items ++ spaced_line (codes ".model") (m.model ∷ [])) same)
    (c.in_ok-put_input_line.ensures ∙ ap (λ (m : Net). c.put_model.new.out.items ++ spaced_line (codes ".inputs") (m.inputs ++ clock_words m.clock)) same)
    (c.in_ok-put_output_line.ensures ∙ ap (λ (m : Net). c.put_input_line.new.out.items ++ spaced_line (codes ".outputs") (net_words m m.outputs)) same)
    c.in_ok-put_nodes.ensures c.in_ok-extend_from_slice.ensures.items
