use Rattle.std.proofs.Common.{◌≡◌, ◌∙◌, ◌∷◌, [], sym, ap, arith}
use Rattle.table_cover.specs.Words.{word_bit}
use Rattle.net_simulator.specs.Truth.{number_from}
use Rattle.net_simulator.proofs.ShortTables.{majority_bit}
use Rattle.net_simulator.proofs.short.of_three.Goals as goal

pub returns-then-word-eq-MAJORITY : goal.returns-then-word-eq-MAJORITY
returns-then-word-eq-MAJORITY c = λ j l.
    let is : c.args.word ≡ 16782920098433788136 = omega arith in
    c.majority_word.ensures j l
    ∙ (majority_bit (word_bit j c.args.a) (word_bit j c.args.b) (word_bit j c.args.c)
    ∙ ap (word_bit (number_from 0 (word_bit j c.args.a ∷ word_bit j c.args.b ∷ word_bit j c.args.c ∷ []))) (sym is))
