use Rattle.recovery_depth.proofs.LastRegisterLaws.{AreKnown}
use Rattle.recovery_depth.proofs.last_registers.registers_before.Given as goal

abbrev pub invariant-loop-x : goal.invariant-loop-x
invariant-loop-x l = AreKnown l.graph l.is_register l.order l.reaches l.before.items l.x-index
