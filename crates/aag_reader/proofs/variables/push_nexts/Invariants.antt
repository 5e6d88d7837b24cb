use Rattle.std.proofs.Common.{◌≡◌, ◌++◌, map, drop}
use Rattle.aag_text.specs.declared.aig.Latch.{Latch}
use Rattle.aag_reader.proofs.variables.push_nexts.Given as goal

abbrev pub invariant-loop-latch : goal.invariant-loop-latch
invariant-loop-latch l = l.variables.items ++ map (λ (x : Latch). x.next.variable) (drop l.latch-index l.latches) ≡ l.fn.variables.items ++ map (λ (x : Latch). x.next.variable) l.latches
