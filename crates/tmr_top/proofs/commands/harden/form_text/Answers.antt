use Rattle.std.proofs.Common.{◌≡◌, List, ℕ, length, subst, sym, ap, ◌∙◌, IfOk}
use Rattle.flat_net.specs.Net.{Design}
use Rattle.tmr_texts.specs.Texts.{greatest}
use Rattle.tmr_top.proofs.HardenLaws.{told_numbers}
use Rattle.tmr_top.proofs.commands.harden.form_text.Goals as goal

pub returns : goal.returns
returns c = λ a.
    subst (λ (t : List ℕ). IfOk c.hardened_lines.result (λ text. text.items ≡ t))
    (told_numbers c.args.n.now.design.net a.pair.net.design.net a.pair.cert c.args.words.now.size c.args.made.now.minimal c.args.n.now.free _ _ _ _ _ _ _ _ _
    (c.node_count.ensures ∙ ap (λ (d : Design). length d.net.nodes) c.net.ensures.net)
    a.nodes a.partitions (a.cost ∙ a.bounded.pairs) (a.plain ∙ a.bounded.plain_pairs) (a.voters ∙ a.bounded.voters) (c.greatest_of.ensures ∙ ap greatest (c.deref.ensures.value ∙ a.depths)) (sym a.bounded.form.has_version) c.free_count.ensures)
    c.hardened_lines.ensures
