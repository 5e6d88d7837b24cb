use Rattle.std.proofs.Common.{ℕ, List, ◌++◌, sym, ap, ◌∙◌}
use Rattle.std.proofs.lemmas.Option.{get_or_from_slice_get}
use Rattle.flat_net.specs.Net.{name_of}
use Rattle.guarded_text.specs.Private.Spelled.{comparator_text}
use Rattle.guarded_text.proofs.comparing.put_comparator_of.Goals as goal

pub returns : goal.returns
returns c =
    let n = c.args.n.now.net in
    c.in_ok-put_comparator.ensures ∙ ap (λ (w : List ℕ). c.args.out.now.items ++ comparator_text w)
    (c.bytes.ensures.bytes ∙ (c.name.ensures ∙ ap (name_of n) (sym (get_or_from_slice_get n.outputs c.args.k c.output.result.0 0 c.output.ensures.output))))
