use Rattle.std.proofs.Common.{◌≡◌, ◌∙◌, Bool, cond, not, sym, ap, arith}
use Rattle.table_cover.specs.Words.{word_bit, bits_of}
use Rattle.net_meaning.specs.Meaning.{bit}
use Rattle.net_simulator.proofs.Lanes.{bit_of_words}
use Rattle.net_simulator.proofs.Literals.{fitting_word}
use Rattle.net_simulator.proofs.tables.literal_word.Goals as goal

pub returns : goal.returns
returns c = λ j l.
    let here : word_bit j c.word_at-word.result ≡ bit (bits_of j c.args.now.now) c.args.literal.net.0 = ap (word_bit j) c.word_at-word.ensures ∙ sym (bit_of_words j c.args.now.now c.args.literal.net.0) in
    fitting_word j c.word_at-word.result c.word_of.result c.merged.result c.args.literal.is_on l (omega arith) (c.word_of.ensures j l) (c.merged.ensures j l) ∙ ap (λ (b : Bool). cond c.args.literal.is_on b (not b)) here
