use Rattle.std.proofs.Common.{◌≡◌, ◌++◌, map, drop}
use Rattle.aag_text.specs.declared.aig.Latch.{Latch}
use Rattle.aag_design.specs.Draft.{starts_free}
use Rattle.aag_design.proofs.marks.push_latches.Given as goal

abbrev pub invariant-loop-latch : goal.invariant-loop-latch
invariant-loop-latch l = l.marks.items ++ map (λ (x : Latch). starts_free x.start) (drop l.latch-index l.latches) ≡ l.fn.marks.items ++ map (λ (x : Latch). starts_free x.start) l.latches
