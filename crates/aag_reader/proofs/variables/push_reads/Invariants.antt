use Rattle.std.proofs.Common.{◌≡◌, ◌++◌, drop}
use Rattle.std.specs.List.{flat_map}
use Rattle.aag_reader.specs.Private.Found.{gate_reads}
use Rattle.aag_reader.proofs.variables.push_reads.Given as goal

abbrev pub invariant-loop-gate : goal.invariant-loop-gate
invariant-loop-gate l = l.variables.items ++ flat_map gate_reads (drop l.gate-index l.gates) ≡ l.fn.variables.items ++ flat_map gate_reads l.gates
