use Rattle.std.proofs.Common.{ap, sym, ◌∙◌}
use Rattle.vcd_text.specs.Text.{has_lines}
use Rattle.vcd_text.proofs.Puts.{quiet_more, loud, no_changes}
use Rattle.vcd_text.proofs.changes.has_changes.Goals as goal

pub returns-then-is_changed : goal.returns-then-is_changed
returns-then-is_changed c = sym (loud c.args.values.now c.args.count c.args.t c.loop-k.k c.args.count c.loop-k-test.true (sym c.is_changed.ensures ∙ c.if-is_changed.true)) ∙ c.loop-k.invariant

pub loop-k-preserved : goal.loop-k-preserved
loop-k-preserved c = quiet_more c.args.values.now c.args.count c.args.t c.loop-k.k c.args.count c.loop-k-test.true (sym c.is_changed.ensures ∙ c.if-is_changed.false) ∙ c.loop-k.invariant

pub returns : goal.returns
returns c = ap has_lines (sym (no_changes c.args.values.now c.args.count c.args.t c.loop-k.k c.args.count c.loop-k-test.false)) ∙ c.loop-k.invariant
