use Rattle.reports.proofs.CountLaws.{AreHeads}
use Rattle.reports.proofs.loops.loop_heads.Given as goal

abbrev pub invariant-loop-x : goal.invariant-loop-x
invariant-loop-x l = AreHeads l.groups l.x l.seen.items l.heads.items
