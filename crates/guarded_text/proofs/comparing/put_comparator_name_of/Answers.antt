use Rattle.std.proofs.Common.{ℕ, List, ◌∷◌, ◌++◌, sym, ap, ◌∙◌}
use Rattle.std.proofs.lemmas.Option.{get_or_from_slice_get}
use Rattle.flat_net.specs.Net.{name_of}
use Rattle.guarded_text.specs.Private.Spelled.{tailed}
use Rattle.guarded_text.proofs.comparing.put_comparator_name_of.Goals as goal

pub returns : goal.returns
returns c =
    let n = c.args.n.now.net in
    c.in_ok-put_tailed.ensures ∙ ap (λ (w : List ℕ). c.args.out.now.items ++ 32 ∷ tailed w 101)
    (c.bytes.ensures.bytes ∙ (c.name.ensures ∙ ap (name_of n) (sym (get_or_from_slice_get n.outputs c.args.k c.output.result.0 0 c.output.ensures.output))))
