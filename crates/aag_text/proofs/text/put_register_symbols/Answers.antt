use Rattle.std.proofs.Common.{◌+◌, ℕ, arith, ap}
use Rattle.aag_text.proofs.Puts.{register_more, next_bound}
use Rattle.aag_text.proofs.text.put_register_symbols.Goals as goal

pub loop-i-preserved : goal.loop-i-preserved
loop-i-preserved c = record {
  same = register_more c.args.n.now.net c.loop-i.i c.loop-i.j (c.input_count-inputs.result + c.loop-i.i) _ c.loop-i.out.items c.put_register_symbol.new.out.items _ (omega (arith, c.loop-i-test.true, c.node_count-i-end.ensures)) (ap (λ (m : ℕ). m + c.loop-i.i) c.input_count-inputs.ensures.count) c.in_ok-j.ensures.next c.in_ok-j.ensures.symbols c.loop-i.invariant.same;
  bound = next_bound c.args.n.now.net c.loop-i.j (c.input_count-inputs.result + c.loop-i.i) _ c.loop-i.i c.in_ok-j.ensures.next c.loop-i.invariant.bound;
}
