use Rattle.std.proofs.Common.{◌∙◌, Bool, not, cond, ap, arith}
use Rattle.net_simulator.proofs.Literals.{fitting_word}
use Rattle.net_simulator.proofs.tables.rows_word.Goals as goal

pub returns : goal.returns
returns c = λ j l.
    fitting_word j c.some_row-some.result c.word_of.result c.merged.result c.args.entry.is_on l (omega arith) (c.word_of.ensures j l) (c.merged.ensures j l)
    ∙ ap (λ (b : Bool). cond c.args.entry.is_on b (not b)) (c.some_row-some.ensures j l)
