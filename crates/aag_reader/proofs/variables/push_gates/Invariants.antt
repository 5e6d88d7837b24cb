use Rattle.std.proofs.Common.{◌≡◌, ◌++◌, map, drop}
use Rattle.aag_text.specs.declared.aig.Gate.{Gate}
use Rattle.aag_reader.proofs.variables.push_gates.Given as goal

abbrev pub invariant-loop-gate : goal.invariant-loop-gate
invariant-loop-gate l = l.variables.items ++ map (λ (x : Gate). x.variable) (drop l.gate-index l.gates) ≡ l.fn.variables.items ++ map (λ (x : Gate). x.variable) l.gates
