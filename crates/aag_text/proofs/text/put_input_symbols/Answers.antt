use Rattle.std.proofs.Common.{arith, ◌∙◌}
use Rattle.aag_text.proofs.Puts.{input_more}
use Rattle.aag_text.proofs.text.put_input_symbols.Goals as goal

pub loop-i-preserved : goal.loop-i-preserved
loop-i-preserved c = input_more c.args.n.now.net c.loop-i.i c.bytes.result.now c.loop-i.out.items c.put_symbol.new.out.items _ (omega (arith, c.loop-i-test.true, c.input_count-i-end.ensures.count)) (c.bytes.ensures.bytes ∙ c.name.ensures) c.in_ok-put_symbol.ensures c.loop-i.invariant
