use Rattle.std.proofs.Common.{ℕ, length, sym, ap, ◌∙◌}
use Rattle.flat_net.specs.Net.{Design}
use Rattle.tmr_words.specs.FileWords.{word_in}
use Rattle.tmr_top.specs.Replayed.{is_too_large}
use Rattle.tmr_top.proofs.commands.replay.keep_small.Goals as goal

pub returns-then-is_too_large-clause-large : goal.returns-then-is_too_large-clause-large
returns-then-is_too_large-clause-large c =
    let n = c.args.pair.now.original.design.net in
    let size = sym (c.if-is_too_large.ensures n (c.output_count.ensures ∙ ap (λ (d : Design). length d.net.outputs) c.net.ensures.net)) in
    record { large = ap (λ (t : ℕ). is_too_large (word_in c.args.words.now.waves) n t) (sym c.cycles.ensures.count) ∙ size; refuses = c.refuse.ensures }

pub returns-clause-small : goal.returns-clause-small
returns-clause-small c =
    let n = c.args.pair.now.original.design.net in
    let size = sym (c.if-is_too_large.ensures n (c.output_count.ensures ∙ ap (λ (d : Design). length d.net.outputs) c.net.ensures.net)) in
    ap (λ (t : ℕ). is_too_large (word_in c.args.words.now.waves) n t) (sym c.cycles.ensures.count) ∙ size
