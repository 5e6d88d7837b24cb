use Rattle.std.proofs.Common.{◌≡◌, ◌++◌, drop, map}
use Rattle.library_faults.specs.Faults.{formals_fault, formal_of}
use Rattle.library_faults.proofs.statements.placing.bind_all.Given as goal

abbrev pub invariant-loop-formal : goal.invariant-loop-formal
invariant-loop-formal l = record {
  bound : l.bound.keys ++ map formal_of (drop l.formal-index l.bindings) ≡ l.fn.bound.keys ++ map formal_of l.bindings;
  rest : formals_fault l.ports l.bound.keys (map formal_of (drop l.formal-index l.bindings)) ≡ formals_fault l.ports l.fn.bound.keys (map formal_of l.bindings);
}
