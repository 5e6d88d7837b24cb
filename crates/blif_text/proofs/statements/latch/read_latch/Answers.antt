use Rattle.blif_text.proofs.Latches.{clocked}
use Rattle.blif_text.proofs.statements.latch.read_latch.Goals as goal

pub returns-in-len4 : goal.returns-in-len4
returns-in-len4 c = clocked c.args.tokens.now _ _ _ _ c.latch-in-len4.result c.in-len4.len_at_least c.in-len4.len_below c.latch-in-len4.ensures
