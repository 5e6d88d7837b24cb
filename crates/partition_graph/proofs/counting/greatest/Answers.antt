use Rattle.std.proofs.Common.{slice_index, sym, arith}
use Rattle.std.proofs.lemmas.List.{get_or_default}
use Rattle.partition_graph.proofs.CountLaws.{max_none, most_more, above_more}
use Rattle.partition_graph.proofs.counting.greatest.Goals as goal

pub loop-i-init : goal.loop-i-init
loop-i-init c = record { most = sym (max_none (slice_index c.args.numbers.now)); above = λ j h. absurd (omega arith) }

pub loop-i-preserved : goal.loop-i-preserved
loop-i-preserved c = record {
  most = most_more c.args.numbers.now c.loop-i.i c.loop-i.most c.greater-most.result c.greater-most.ensures c.loop-i.invariant.most;
  above = above_more c.args.numbers.now c.loop-i.i c.loop-i.most c.greater-most.result c.greater-most.ensures c.loop-i.invariant.above;
}

pub returns-clause-above : goal.returns-clause-above
returns-clause-above c = λ j d h.
    let e = get_or_default c.args.numbers.now j d 0 h in
    omega (arith, e, c.loop-i.invariant.above j (omega (arith, h, c.loop-i-test.false)))
