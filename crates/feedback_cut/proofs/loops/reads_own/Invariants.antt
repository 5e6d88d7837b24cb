use Rattle.feedback_cut.proofs.LoopLaws.{HasNone}
use Rattle.feedback_cut.proofs.loops.reads_own.Given as goal

abbrev pub invariant-loop-x : goal.invariant-loop-x
invariant-loop-x l = HasNone l.x-items l.numbers l.y l.x-index
