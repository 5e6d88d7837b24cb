use Rattle.std.proofs.Common.{arith}
use Rattle.vcd_text.proofs.Spelled.{name_more}
use Rattle.vcd_text.proofs.text.know_names.Goals as goal

pub loop-k-preserved : goal.loop-k-preserved
loop-k-preserved c = name_more c.args.names.now c.loop-k.k c.index-names-k.result (omega arith) c.index-names-k.is c.bytes.ensures.legal c.loop-k.invariant
