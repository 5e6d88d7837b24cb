use Rattle.std.proofs.Common.{Bool, length, sym, ap, ◌∙◌}
use Rattle.flat_net.specs.Free.{node_bit}
use Rattle.triplicate.proofs.Marks.{node_bit_none}
use Rattle.hardened_text.specs.Private.Lines.{marks_of}
use Rattle.hardened_text.proofs.design.is_free.Goals as goal

pub returns : goal.returns
returns c =
    sym (node_bit_none (length c.args.n.now.design.net.inputs) c.args.x) ∙ ap (λ (b : Bool). node_bit (length c.args.n.now.design.net.inputs) (marks_of b c.args.n.now.free) c.args.x) (sym c.if-inputs.false)
