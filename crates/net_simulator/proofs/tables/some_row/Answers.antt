use Rattle.std.proofs.Common.{◌∙◌, Bool, false, sym, ap, arith}
use Rattle.table_cover.specs.Words.{word_bit, bits_of}
use Rattle.table_cover.proofs.WordLaws.{word_bit_zero}
use Rattle.net_meaning.specs.Meaning.{bit}
use Rattle.net_simulator.specs.Tables.{some_fits}
use Rattle.net_simulator.proofs.Literals.{fits_words, fits_end}
use Rattle.net_simulator.proofs.tables.some_row.Goals as goal

pub loop-i-init : goal.loop-i-init
loop-i-init c = λ j l.
    ap (λ (b : Bool). some_fits (bit (bits_of j c.args.now.now)) b false c.args.literals.now) (sym (c.word_of-earlier.ensures j l))
    ∙ ap (λ (b : Bool). some_fits (bit (bits_of j c.args.now.now)) (word_bit j c.word_of-earlier.result) b c.args.literals.now) (sym (word_bit_zero j))

pub loop-i-preserved : goal.loop-i-preserved
loop-i-preserved c = λ j l.
    c.loop-i.invariant j l ∙ fits_words (bit (bits_of j c.args.now.now)) c.args.literals.now c.loop-i.i c.literal_at-literal.result j c.loop-i.earlier c.loop-i.present c.word_of-first.result c.literal_word.result
    c.literal_at-literal.ensures (c.word_of-first.ensures j l) (c.literal_word.ensures j l)

pub returns : goal.returns
returns c = λ j l. sym (c.loop-i.invariant j l ∙ fits_end (bit (bits_of j c.args.now.now)) c.args.literals.now c.loop-i.i j c.loop-i.earlier c.loop-i.present (omega arith))
