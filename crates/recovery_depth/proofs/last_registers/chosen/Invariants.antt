use Rattle.recovery_depth.specs.Private.LastRegisters.{IsChosen}
use Rattle.recovery_depth.proofs.last_registers.chosen.Given as goal

abbrev pub invariant-loop-x : goal.invariant-loop-x
invariant-loop-x l = IsChosen l.row l.last.reaches.now l.last.is_register.now l.last.before.now l.last.none l.target l.x-index l.best
