use Rattle.std.proofs.Common.{◌++◌, ◌+◌, ◌-◌, arith}
use Rattle.vcd_text.specs.Text.{cycle_lines, cycles_from, lines_text}
use Rattle.vcd_text.proofs.Puts.{more_put, cycles_more, no_cycles, all_put}
use Rattle.vcd_text.proofs.text.put_cycles.Goals as goal

pub loop-t-preserved : goal.loop-t-preserved
loop-t-preserved c =
    let values = c.args.values.now in
    let count = c.args.count in
    let t = c.loop-t.t in
    more_put c.loop-t.out.items c.put_cycle.new.out.items (c.args.out.now.items ++ lines_text (cycles_from values count 0 c.args.cycles)) (cycles_from values count t (c.args.cycles - t)) (cycle_lines values count t) (cycles_from values count (t + 1) (c.args.cycles - (t + 1))) (cycles_more values count t c.args.cycles (omega arith)) c.in_ok-put_cycle.ensures c.loop-t.invariant

pub returns : goal.returns
returns c = all_put c.loop-t.out.items _ _ (no_cycles c.args.values.now c.args.count c.loop-t.t c.args.cycles c.loop-t-test.false) c.loop-t.invariant
