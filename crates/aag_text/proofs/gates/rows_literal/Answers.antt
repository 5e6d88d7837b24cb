use Rattle.std.proofs.Common.{◌+◌, ◌*◌, length, arith}
use Rattle.aag_text.proofs.Counts.{row_more, rows_end}
use Rattle.aag_text.proofs.Chains.{rows_go, rows_some, rows_none, grows_then, grows_as, row_long}
use Rattle.aag_text.proofs.gates.rows_literal.Goals as goal

pub loop-i-preserved : goal.loop-i-preserved
loop-i-preserved c = record {
  same = λ values zero m. rows_go values c.args.cover.now.rows c.args.pins.now c.loop-i.i c.row.result.now _ _ _ _ c.row.ensures.row
      (c.loop-i.invariant.same values zero (c.in_ok-row.ensures.grows.met values (c.in_ok-with_row.ensures.grows.met values m)))
      (c.in_ok-row.ensures.value values zero (c.in_ok-with_row.ensures.grows.met values m))
      (c.in_ok-with_row.ensures.value values m);
  grows = grows_as _ _ c.args.gates.now c.with_row.new.gates (row_long c.loop-i.i c.args.cover.now.width (length c.row.result.now) c.row.ensures.marks.0)
      (grows_then _ 1 c.args.gates.now c.row_literal.new.gates c.with_row.new.gates
      (grows_then (c.loop-i.i * (c.args.cover.now.width + 1)) (length c.row.result.now) c.args.gates.now c.loop-i.gates c.row_literal.new.gates c.loop-i.invariant.grows c.in_ok-row.ensures.grows)
      c.in_ok-with_row.ensures.grows);
  count = let more = row_more c.loop-i.any c.in_ok-with_row.field-0 c.args.cover.now.rows c.loop-i.i c.row.result.now c.row.ensures.row in omega (arith, more, c.loop-i.invariant.count, c.in_ok-row.ensures.count, c.in_ok-with_row.ensures.count);
  below = c.in_ok-with_row.ensures.below;
}

pub returns-in-Some-clause-value : goal.returns-in-Some-clause-value
returns-in-Some-clause-value c = λ values zero m. rows_some values c.args.cover.now.rows c.args.pins.now c.loop-i.i c.loop-i.any c.in-Some.any _ (omega (arith, c.loop-i-test.false, c.row_count-i-end.ensures)) c.in-Some.is (c.loop-i.invariant.same values zero m)

pub returns-in-None-clause-value : goal.returns-in-None-clause-value
returns-in-None-clause-value c = λ values zero m. rows_none values c.args.cover.now.rows c.args.pins.now c.loop-i.i c.loop-i.any _ (omega (arith, c.loop-i-test.false, c.row_count-i-end.ensures)) c.in-None.is zero (c.loop-i.invariant.same values zero m)

pub returns-in-Some-clause-count : goal.returns-in-Some-clause-count
returns-in-Some-clause-count c = let none = rows_end c.loop-i.any c.args.cover.now.rows c.loop-i.i (omega (arith, c.loop-i-test.false, c.row_count-i-end.ensures)) in omega (arith, none, c.loop-i.invariant.count)

pub returns-in-None-clause-count : goal.returns-in-None-clause-count
returns-in-None-clause-count c = let none = rows_end c.loop-i.any c.args.cover.now.rows c.loop-i.i (omega (arith, c.loop-i-test.false, c.row_count-i-end.ensures)) in omega (arith, none, c.loop-i.invariant.count)
