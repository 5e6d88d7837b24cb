use Rattle.std.proofs.Common.{arith}
use Rattle.aag_text.proofs.Counts.{mark_more, marks_end}
use Rattle.aag_text.proofs.Chains.{row_goes, row_some, row_none, grows_then}
use Rattle.aag_text.proofs.gates.row_literal.Goals as goal

pub loop-j-preserved : goal.loop-j-preserved
loop-j-preserved c = record {
  same = λ values m. row_goes values c.args.row.now c.args.pins.now c.loop-j.j _ _ _ _ c.loop-j-test.true c.requires.wide (c.loop-j.invariant.same values (c.in_ok-all.ensures.grows.met values m)) (c.in_ok-all.ensures.value values m);
  grows = grows_then c.loop-j.j 1 c.args.gates.now c.loop-j.gates c.with_mark.new.gates c.loop-j.invariant.grows c.in_ok-all.ensures.grows;
  count = let more = mark_more c.loop-j.all c.in_ok-all.all c.args.row.now c.loop-j.j c.loop-j-test.true c.in_ok-all.ensures.some in omega (arith, more, c.loop-j.invariant.count, c.in_ok-all.ensures.count);
  below = c.in_ok-all.ensures.below;
}

pub returns-in-Some-clause-value : goal.returns-in-Some-clause-value
returns-in-Some-clause-value c = λ values zero m. row_some values c.args.row.now c.args.pins.now c.loop-j.j c.loop-j.all c.in-Some.all _ c.loop-j-test.false c.in-Some.is (c.loop-j.invariant.same values m)

pub returns-in-None-clause-value : goal.returns-in-None-clause-value
returns-in-None-clause-value c = λ values zero m. row_none values c.args.row.now c.args.pins.now c.loop-j.j c.loop-j.all _ c.loop-j-test.false c.in-None.is zero (c.loop-j.invariant.same values m)

pub returns-in-Some-clause-count : goal.returns-in-Some-clause-count
returns-in-Some-clause-count c = let none = marks_end c.loop-j.all c.args.row.now c.loop-j.j c.loop-j-test.false in omega (arith, none, c.loop-j.invariant.count)

pub returns-in-None-clause-count : goal.returns-in-None-clause-count
returns-in-None-clause-count c = let none = marks_end c.loop-j.all c.args.row.now c.loop-j.j c.loop-j-test.false in omega (arith, none, c.loop-j.invariant.count)
