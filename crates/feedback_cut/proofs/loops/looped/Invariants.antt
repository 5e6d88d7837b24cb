use Rattle.feedback_cut.specs.Private.Loops.{AreLooped}
use Rattle.feedback_cut.proofs.loops.looped.Given as goal

abbrev pub invariant-loop-y : goal.invariant-loop-y
invariant-loop-y l = AreLooped l.graph l.numbers l.groups l.y l.loops.items
