use Rattle.sweep.proofs.CountLaws.{EachCounted}
use Rattle.sweep.proofs.counting.count_each.Given as goal

abbrev pub invariant-loop-p : goal.invariant-loop-p
invariant-loop-p l = EachCounted l.fn.counts l.counts l.parts l.p-index
