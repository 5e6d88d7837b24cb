use Rattle.std.proofs.Common.{◌∙◌}
use Rattle.aag_text.proofs.Puts.{output_more}
use Rattle.aag_text.proofs.text.put_output_symbols.Goals as goal

pub loop-k-preserved : goal.loop-k-preserved
loop-k-preserved c = output_more c.args.n.now.net c.loop-k.k c.output.result.0 c.bytes.result.now c.loop-k.out.items c.put_symbol.new.out.items _ c.output.ensures.output (c.bytes.ensures.bytes ∙ c.name.ensures) c.in_ok-put_symbol.ensures c.loop-k.invariant
