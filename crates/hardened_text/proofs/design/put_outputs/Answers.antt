use Rattle.std.proofs.Common.{ℕ, List, ◌++◌, ap, sym, ◌∙◌, arith}
use Rattle.std.specs.List.{flat_map}
use Rattle.std.proofs.lemmas.Option.{get_or_from_slice_get}
use Rattle.flat_net.specs.Net.{name_of}
use Rattle.hardened_text.specs.Private.Spelled.{three_spelled}
use Rattle.hardened_text.proofs.Ranges.{row_put}
use Rattle.hardened_text.proofs.design.put_outputs.Goals as goal

pub loop-k-preserved : goal.loop-k-preserved
loop-k-preserved c =
    let n = c.args.n.now.net in
    let f : ℕ → List ℕ = λ x. three_spelled (name_of n x) in
    row_put f c.loop-k.k n.outputs c.output.result.0 c.loop-k.out.items c.put_three_names.new.out.items (c.args.out.now.items ++ flat_map f n.outputs) (omega arith)
    (sym (get_or_from_slice_get n.outputs c.loop-k.k c.output.result.0 c.output.result.0 c.output.ensures.output))
    (c.in_ok-put_three_names.ensures ∙ ap (λ (w : List ℕ). c.loop-k.out.items ++ three_spelled w) (c.bytes.ensures.bytes ∙ c.name.ensures)) c.loop-k.invariant
