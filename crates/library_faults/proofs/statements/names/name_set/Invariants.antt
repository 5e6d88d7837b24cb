use Rattle.std.proofs.Common.{◌≡◌, ◌++◌, drop}
use Rattle.library_faults.proofs.statements.names.name_set.Given as goal

abbrev pub invariant-loop-name : goal.invariant-loop-name
invariant-loop-name l = l.set.keys ++ drop l.name-index l.names ≡ l.names
