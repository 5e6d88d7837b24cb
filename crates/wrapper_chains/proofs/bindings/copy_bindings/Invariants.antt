use Rattle.std.proofs.Common.{◌≡◌, ◌++◌, drop}
use Rattle.wrapper_chains.proofs.bindings.copy_bindings.Given as goal

abbrev pub invariant-loop-formal : goal.invariant-loop-formal
invariant-loop-formal l = l.copies.items ++ drop l.formal-index l.bindings ≡ l.bindings
