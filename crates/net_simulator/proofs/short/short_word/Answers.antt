use Rattle.std.proofs.Common.{List, Bool, ◌∙◌, sym, ap, arith}
use Rattle.tmr_base.specs.declared.ids.NetId.{NetId}
use Rattle.table_cover.specs.Words.{word_bit, bits_of}
use Rattle.net_meaning.specs.Meaning.{bit}
use Rattle.net_simulator.specs.Truth.{number_from}
use Rattle.net_simulator.proofs.ShortTables.{lowest_bit, read_none, read_four, read_five, read_six}
use Rattle.net_simulator.proofs.short.short_word.Goals as goal

pub returns-in-empty : goal.returns-in-empty
returns-in-empty c = λ j l.
    c.word_of.ensures j l
    ∙ (lowest_bit c.args.word
    ∙ ap (λ (bs : List Bool). word_bit (number_from 0 bs) c.args.word) (sym (read_none (λ (p : NetId). bit (bits_of j c.args.now.now) p.0) c.args.pins.now (omega arith))))

pub returns-in-len4 : goal.returns-in-len4
returns-in-len4 c = λ j l.
    c.four_pins.ensures c.pin_word-in-len4-4.result j c.ends-in-len4.ensures (omega arith) l
    ∙ ap (λ (bs : List Bool). word_bit (number_from 0 bs) c.args.word)
    (sym (read_four (λ (p : NetId). bit (bits_of j c.args.now.now) p.0) c.args.pins.now _ _ _ _ (word_bit j c.pin_word-in-len4.result) (word_bit j c.pin_word-in-len4-2.result) (word_bit j c.pin_word-in-len4-3.result) (word_bit j c.pin_word-in-len4-4.result) (omega arith) (c.pin_word-in-len4.ensures j) (c.pin_word-in-len4-2.ensures j) (c.pin_word-in-len4-3.ensures j) (c.pin_word-in-len4-4.ensures j)))

pub returns-in-len5 : goal.returns-in-len5
returns-in-len5 c = λ j l.
    c.five_pins.ensures c.pin_word-in-len5-5.result j c.ends-in-len5.ensures (omega arith) l
    ∙ ap (λ (bs : List Bool). word_bit (number_from 0 bs) c.args.word)
    (sym (read_five (λ (p : NetId). bit (bits_of j c.args.now.now) p.0) c.args.pins.now _ _ _ _ _ (word_bit j c.pin_word-in-len5.result) (word_bit j c.pin_word-in-len5-2.result) (word_bit j c.pin_word-in-len5-3.result) (word_bit j c.pin_word-in-len5-4.result) (word_bit j c.pin_word-in-len5-5.result) (omega arith) (c.pin_word-in-len5.ensures j) (c.pin_word-in-len5-2.ensures j) (c.pin_word-in-len5-3.ensures j) (c.pin_word-in-len5-4.ensures j) (c.pin_word-in-len5-5.ensures j)))

pub returns-in-len6 : goal.returns-in-len6
returns-in-len6 c = λ j l.
    c.six_pins.ensures c.pin_word-in-len6-6.result j c.ends-in-len6.ensures (omega arith) l
    ∙ ap (λ (bs : List Bool). word_bit (number_from 0 bs) c.args.word)
    (sym (read_six (λ (p : NetId). bit (bits_of j c.args.now.now) p.0) c.args.pins.now _ _ _ _ _ _ (word_bit j c.pin_word-in-len6.result) (word_bit j c.pin_word-in-len6-2.result) (word_bit j c.pin_word-in-len6-3.result) (word_bit j c.pin_word-in-len6-4.result) (word_bit j c.pin_word-in-len6-5.result) (word_bit j c.pin_word-in-len6-6.result) (omega arith) (c.pin_word-in-len6.ensures j) (c.pin_word-in-len6-2.ensures j) (c.pin_word-in-len6-3.ensures j) (c.pin_word-in-len6-4.ensures j) (c.pin_word-in-len6-5.ensures j) (c.pin_word-in-len6-6.ensures j)))
