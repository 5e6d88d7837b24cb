use Rattle.std.proofs.Common.{ℕ, ◌∙◌, ap}
use Rattle.table_cover.specs.Words.{word_bit}
use Rattle.table_cover.proofs.WordLaws.{word_bit_zero}
use Rattle.partitioner.proofs.refinement.scanning.consider_block.Goals as goal

pub returns-then-chosen-eq0-clause-tried : goal.returns-then-chosen-eq0-clause-tried
returns-then-chosen-eq0-clause-tried c = λ j q l within lane room.
    c.candidates-chosen.ensures j q l within lane (ap (λ (w : ℕ). word_bit j w) c.if-chosen-eq0.true ∙ word_bit_zero j)
