use Rattle.std.proofs.Common.{◌∙◌, ◌∷◌, []}
use Rattle.table_cover.specs.Words.{word_bit}
use Rattle.net_simulator.proofs.ShortTables.{chosen_half}
use Rattle.net_simulator.proofs.short.six_pins.Goals as goal

pub returns : goal.returns
returns c = λ x j is h l.
    c.merged.ensures j l
    ∙ chosen_half (word_bit j c.args.a) (word_bit j c.five_pins-zero.result) (word_bit j c.five_pins-one.result) c.args.word 0 (word_bit j c.args.b ∷ word_bit j c.args.c ∷ word_bit j c.args.d ∷ word_bit j c.args.e ∷ word_bit j x ∷ [])
    (c.five_pins-zero.ensures x j is h l) (c.five_pins-one.ensures x j is h l)
