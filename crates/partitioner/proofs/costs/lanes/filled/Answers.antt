use Rattle.std.proofs.Common.{◌∙◌, sym}
use Rattle.table_cover.proofs.WordLaws.{word_bit_ones, word_bit_zero}
use Rattle.partitioner.proofs.costs.lanes.filled.Goals as goal

pub returns-then-all : goal.returns-then-all
returns-then-all c = λ j l. word_bit_ones j l ∙ sym c.if-all.true

pub returns-else-all : goal.returns-else-all
returns-else-all c = λ j l. word_bit_zero j ∙ sym c.if-all.false
