use Rattle.std.proofs.Common.{◌+◌, ◌&&◌, Bool, ap, drop}
use Rattle.table_cover.specs.Cover.{row_matches}
use Rattle.table_cover.specs.Words.{bits_of}
use Rattle.table_cover.proofs.WordLaws.{word_bit_ones, row_next, all_next}
use Rattle.table_cover.proofs.rows.wide_row.Goals as goal

pub loop-i-init : goal.loop-i-init
loop-i-init c = λ j l. ap (λ (b : Bool). b && row_matches c.args.row.now (bits_of j c.args.words.now)) (word_bit_ones j l)

pub loop-i-preserved : goal.loop-i-preserved
loop-i-preserved c = λ j l.
    all_next j c.loop-i.all c.wide_fits-all.result _ _ (row_matches (drop (c.loop-i.i + 1) c.args.row.now) (bits_of j (drop (c.loop-i.i + 1) c.args.words.now))) _ (c.loop-i.invariant j l) (c.wide_fits-all.ensures j l) (row_next j c.args.row.now c.args.words.now c.loop-i.i c.loop-i-test.true c.requires)
