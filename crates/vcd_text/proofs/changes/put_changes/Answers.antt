use Rattle.std.proofs.Common.{◌++◌, ◌+◌, ◌-◌, arith}
use Rattle.vcd_text.specs.Text.{change_lines, changes_from, lines_text}
use Rattle.vcd_text.proofs.Puts.{more_put, changes_more, no_changes, all_put}
use Rattle.vcd_text.proofs.changes.put_changes.Goals as goal

pub loop-k-preserved : goal.loop-k-preserved
loop-k-preserved c =
    let values = c.args.values.now in
    let count = c.args.count in
    let t = c.args.t in
    let k = c.loop-k.k in
    more_put c.loop-k.out.items c.put_change.new.out.items (c.args.out.now.items ++ lines_text (changes_from values count t 0 count)) (changes_from values count t k (count - k)) (change_lines values count t k) (changes_from values count t (k + 1) (count - (k + 1))) (changes_more values count t k count (omega arith)) c.in_ok-put_change.ensures c.loop-k.invariant

pub returns : goal.returns
returns c = all_put c.loop-k.out.items _ _ (no_changes c.args.values.now c.args.count c.args.t c.loop-k.k c.args.count c.loop-k-test.false) c.loop-k.invariant
