use Rattle.std.proofs.Common.{sym, ◌∙◌}
use Rattle.partitioner.proofs.MarkLaws.{covers_closed}
use Rattle.partitioner.proofs.counts.rows.close_block.Goals as goal

pub returns-then-word_of-eq0 : goal.returns-then-word_of-eq0
returns-then-word_of-eq0 c =
    covers_closed c.args.w c.args.blocks.now.items c.clear_bit.new.row.items c.args.words.now c.requires (sym c.word_of.ensures ∙ c.if-word_of-eq0.true) c.clear_bit.ensures.kept
