use Rattle.std.proofs.Common.{◌∙◌, sym, ap}
use Rattle.table_cover.specs.Words.{word_bit}
use Rattle.net_simulator.proofs.Lanes.{bit_of_words}
use Rattle.net_simulator.proofs.short.pin_word.Goals as goal

pub returns : goal.returns
returns c = λ j. ap (word_bit j) c.word_at.ensures ∙ sym (bit_of_words j c.args.now.now c.args.pin.now.0)
