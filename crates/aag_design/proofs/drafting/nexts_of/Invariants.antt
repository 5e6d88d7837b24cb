use Rattle.std.proofs.Common.{◌≡◌, ◌++◌, map, drop}
use Rattle.aag_text.specs.declared.aig.Latch.{Latch}
use Rattle.aag_design.proofs.drafting.nexts_of.Given as goal

abbrev pub invariant-loop-latch : goal.invariant-loop-latch
invariant-loop-latch l = l.nexts.items ++ map (λ (x : Latch). x.next) (drop l.latch-index l.latches) ≡ map (λ (x : Latch). x.next) l.latches
